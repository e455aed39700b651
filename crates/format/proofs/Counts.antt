-- Counting the items of a walk that pass a test, one by one, by adding each test's answer.
use mathlib.Core.Path.{◌≡◌, sym, ◌∙◌, ap}
use mathlib.Core.Bool.{Bool, true, false}
use mathlib.Core.List.{List, [], ◌∷◌}
use Prim.Native.Nat.{ℕ, ◌+◌, ◌^◌, ◌≤◌, ◌<◌}
use native.Mathlib.Omega.{arith}
use lib.ListN.{length}
use mir.Syntax.{w64}
use mir.Val.{Fits, bool_byte}
use Rattle.std.specs.Prelude.{cond, filter}

-- what was counted and what is counted among the items left are all
pub record Counting {A : Type 0} (t : A → Bool) (all left : List A) (n : ℕ) : Type 0 where
  pub few : n + length left ≤ length all
  pub is : n + length (filter t left) ≡ length (filter t all)

pub count_first : {A : Type 0} (t : A → Bool) (all left : List A) → left ≡ all → Counting t all left 0
count_first t all left e =
    let z : length (filter t left) ≡ length (filter t all) = ap (λ (xs : List _). length (filter t xs)) e in
    record { few = omega (arith, ap length e); is = omega (arith, z) }

one_kept : {A : Type 0} (b : Bool) (x : A) (xs : List A) → length (cond b (x ∷ xs) xs) ≡ bool_byte b + length xs
one_kept true x xs = omega arith
one_kept false x xs = omega arith

byte_most : (b : Bool) → bool_byte b ≤ 1
byte_most true = omega arith
byte_most false = omega arith

module _ {A : Type 0} (t : A → Bool) (all left : List A) (n : ℕ) (k : Counting t all left n) where
  pub count_done : left ≡ [] → n ≡ length (filter t all)
  count_done q =
      let z : length (filter t left) ≡ 0 = ap (λ (xs : List A). length (filter t xs)) q in
      omega (arith, k.is, z)

  module _ (x : A) (rest : List A) (is : left ≡ x ∷ rest) (b : Bool) where
    pub count_fits : length all < 2 ^ 64 → Fits w64 (n + bool_byte b)
    count_fits g = record { fits = omega (arith, k.few, ap length is, byte_most b) }

    pub count_more : b ≡ t x → Counting t all rest (n + bool_byte b)
    count_more q =
        let y : length (filter t left) ≡ bool_byte b + length (filter t rest) =
        ap (λ (xs : List A). length (filter t xs)) is ∙ ap (λ (c : Bool). length (cond c (x ∷ filter t rest) (filter t rest))) (sym q)
        ∙ one_kept b x (filter t rest) in
        record { few = omega (arith, k.few, ap length is, byte_most b); is = omega (arith, k.is, y) }
