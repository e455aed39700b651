-- Records as numbers, three for each: the list of numbers that gives the same assignments. So the setters over records and over numbers agree.
use mathlib.Core.Path.{◌≡◌, refl, sym, ◌∙◌, ap}
use mathlib.Core.List.{List, [], ◌∷◌}
use Prim.Native.Nat.{ℕ, ◌%◌}
use native.Mathlib.Omega.{arith}
use lib.ListN.{length}
use Rattle.format.specs.Scripts.{Given, whole, and_more, flat, set_out_def, set_scripts}
use Rattle.format.specs.Tables.{View}
use Rattle.format.specs.Told.{told_left, told_set, told_set_out}
use Rattle.format.specs.declared.Psbt.{Psbt}
use Rattle.format.specs.declared.State.{State}
use Rattle.format.specs.declared.Assignment.{Assignment}
use Rattle.format.specs.Answers.{ScriptsSet}
use Rattle.format.proofs.Told.{set_out_one}
use Rattle.setter.specs.Records.{records}

-- output, start and length of each
abbrev pub numbers : List Assignment → List ℕ
numbers [] = []
numbers (a ∷ xs) = a.output ∷ a.start ∷ a.len ∷ numbers xs

pub numbers_whole : (xs : List Assignment) → length (numbers xs) % 3 ≡ 0
numbers_whole [] = refl
numbers_whole (a ∷ xs) = let q : length (numbers xs) % 3 ≡ 0 = numbers_whole xs in omega (arith, q)

pub records_back : (xs : List Assignment) → records (numbers xs) ≡ xs
unfolding records
records_back [] = refl
records_back (a ∷ xs) = ap (λ (ys : List Assignment). a ∷ ys) (records_back xs)

pub flat_back : (xs : List Assignment) → flat (numbers xs) ≡ whole xs
unfolding flat and_more
flat_back [] = refl
flat_back (a ∷ xs) = rw (flat_back xs)

-- what the two setters promise of the same assignments leaves one outcome
pub setters_agree : (v : ℕ → View) (s : Psbt) (xs : List Assignment) (buffer : List ℕ) (t : State) (T T₁ T₂ : List ℕ) (a b : ScriptsSet)
    → told_left (told_set a) T₁ ≡ told_set_out (set_scripts v s (flat (numbers xs)) buffer t T)
    → told_left (told_set b) T₂ ≡ told_set_out (set_scripts v s (whole xs) buffer t T)
    → (a ≡ b) × (T₁ ≡ T₂)
unfolding told_set_out
setters_agree v s xs buffer t T T₁ T₂ a b p q =
    let n : told_set_out (set_out_def a T₁) ≡ told_set_out (set_out_def b T₂) =
    p ∙ ap (λ (g : Given). told_set_out (set_scripts v s g buffer t T)) (flat_back xs) ∙ sym q in
    let e : set_out_def a T₁ ≡ set_out_def b T₂ = set_out_one (set_out_def a T₁) (set_out_def b T₂) n in
    ((cc), (cc))
