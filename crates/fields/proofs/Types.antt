-- Laws of the types of a table of sized types: a walk over them, and that a type with no row is free.
use mathlib.Core.Path.{◌≡◌, refl, sym, ◌∙◌}
use mathlib.Core.List.{List, [], ◌∷◌}
use mathlib.Core.Bool.{Bool, true, false, ◌&&◌}
use Prim.Native.Nat.{ℕ, ◌+◌, ◌≤◌, ◌<◌}
use native.Mathlib.Numerals.{add-one}
use native.Mathlib.Omega.{arith}
use borrow.Author.Tests.{eq-eqb, ne_eqb}
use lib.Dec.{eqb}
use lib.ListN.{length, get_or, drop, drop_of_length-le}
use lib.Seq.{drop-cons}
use Rattle.format.specs.Tests.{pick}
use Rattle.format.specs.Rules.{kind_of, is_row, sizes_in}
use Rattle.format.specs.declared.SizedType.{SizedType}
use Rattle.format.specs.Answers.{passed}
use Rattle.format.proofs.Tests.{pick_no}
use Rattle.fields.specs.Rows.{has_type}
use Rattle.fields.proofs.Rows.{none}

-- the rows from one on have the type where all have it
abbrev pub TypeFrom : List SizedType → ℕ → ℕ → Type 0
TypeFrom rs t i = has_type (drop i rs) t ≡ has_type rs t

module _ (rs : List SizedType) (t i : ℕ) (on : TypeFrom rs t i) where
  pub type_found : i < length rs → (get_or rs i none).tag ≡ t → true ≡ has_type rs t
  unfolding has_type
  type_found h q = rw (drop-cons rs i none h, eq-eqb (get_or rs i none).tag t q) at on

  pub type_passed : i < length rs → ((get_or rs i none).tag ≡ t → ⊥) → TypeFrom rs t (i + 1)
  unfolding has_type
  type_passed h q = rw add-one (rw (drop-cons rs i none h, ne_eqb (get_or rs i none).tag t q) at on)

  pub type_none : (z : ℕ) → length rs ≡ z → z ≤ i → false ≡ has_type rs t
  unfolding has_type
  type_none z e h = let w : length rs ≤ i = omega arith in rw (drop_of_length-le rs w) at on

pub ruleset types = (type_found, type_passed, type_none)

-- another type's row is not about this one
other_row : (r : SizedType) (k t : ℕ) → eqb r.tag t ≡ false → is_row r k t ≡ false
unfolding is_row
other_row r k t q = rw q (by (eqb (kind_of r.kind) k))
  where
    by : (x : Bool) → (x && false) ≡ false
    by true = refl
    by false = refl

untyped : (rs : List SizedType) (k t n m : ℕ) → has_type rs t ≡ false → sizes_in rs k t n m ≡ passed
unfolding has_type sizes_in
untyped [] k t n m e = refl
untyped (r ∷ rs) k t n m e = by (eqb r.tag t) refl e (λ h. untyped rs k t n m h)
  where
    by : (x : Bool) → eqb r.tag t ≡ x → pick x true (has_type rs t) ≡ false
        → (has_type rs t ≡ false → sizes_in rs k t n m ≡ passed) → sizes_in (r ∷ rs) k t n m ≡ passed
    by true q h go = let z : ◌≡◌ {A = ℕ} 0 1 = cc in absurd (omega arith)
    by false q h go = pick_no _ _ _ (other_row r k t q) ∙ go h

-- a type with no row is free
pub type_free : (rs : List SizedType) (k t n m : ℕ) (b : Bool) → b ≡ has_type rs t → b ≡ false → passed ≡ sizes_in rs k t n m
type_free rs k t n m b e q = sym (untyped rs k t n m (sym e ∙ q))

pub ruleset free_types = (type_free)
