-- Bytes written one after the other are one run, the rest of the buffer stays, and a run from the front is the buffer's front.
use mathlib.Core.Path.{◌≡◌, refl, ◌∙◌, ap}
use mathlib.Core.List.{List, [], ◌∷◌, ◌++◌}
use Prim.Native.Nat.{ℕ, suc, ◌+◌, ◌≤◌}
use native.Mathlib.Nat.{add-zero, zero-add}
use native.Mathlib.Omega.{arith}
use lib.ListN.{length, drop, set}
use lib.Seq.{sets, length-sets, sets-eq}
use Rattle.writer.specs.Writes.{wrote}

sets_append : (l : List ℕ) (i : ℕ) (xs ys : List ℕ) → sets (sets l i xs) (i + length xs) ys ≡ sets l i (xs ++ ys)
sets_append l i [] ys = ap (λ (k : ℕ). sets l k ys) (add-zero i)
sets_append l i (x ∷ xs) ys =
    let q : i + suc (length xs) ≡ suc i + length xs = omega arith in
    ap (λ (k : ℕ). sets (sets (set l i x) (suc i) xs) k ys) q ∙ sets_append (set l i x) (suc i) xs ys

-- two runs, one after the other, are one; with no bound to show
pub wrote_append : (l : List ℕ) (i : ℕ) (xs ys : List ℕ) → wrote (wrote l i xs) (i + length xs) ys ≡ wrote l i (xs ++ ys)
unfolding wrote
wrote_append l i xs ys = sets_append l i xs ys

-- the same, where the place and the buffer are known by equations
pub wrote_then : (B B₁ B₂ : List ℕ) (i j : ℕ) (xs ys : List ℕ) → B₁ ≡ wrote B i xs → j ≡ i + length xs → B₂ ≡ wrote B₁ j ys → B₂ ≡ wrote B i (xs ++ ys)
wrote_then B B₁ B₂ i j xs ys e q f = f ∙ rw (e, q) (wrote_append B i xs ys)

pub length_wrote : (l : List ℕ) (i : ℕ) (xs : List ℕ) → length (wrote l i xs) ≡ length l
unfolding wrote
length_wrote l i xs = length-sets l i xs

pub wrote_long : (B B₁ : List ℕ) (i : ℕ) (xs : List ℕ) → B₁ ≡ wrote B i xs → length B₁ ≡ length B
wrote_long B B₁ i xs e = ap length e ∙ length_wrote B i xs

-- nothing written
pub wrote_none : (l : List ℕ) (i : ℕ) → wrote l i [] ≡ l
unfolding wrote
wrote_none l i = refl

-- a whole that fits, from the front on
pub wrote_front : (l xs : List ℕ) → length xs ≤ length l → wrote l 0 xs ≡ xs ++ drop (length xs) l
unfolding wrote
wrote_front l xs h = sets-eq xs l 0 (omega arith) ∙ rw (zero-add (length xs))
