-- The test of two kinds of map is the test of their numbers, and kinds beyond the three ask nothing of a pair.
use mathlib.Core.Path.{◌≡◌, refl, sym, ◌∙◌}
use mathlib.Core.Bool.{Bool, true, false}
use mathlib.Core.List.{List, [], ◌∷◌}
use Prim.Native.Nat.{ℕ, ◌≤◌}
use native.Mathlib.Omega.{arith}
use borrow.Author.Tests.{ne_eqb, le-leb, ltb-true}
use lib.Dec.{eqb, ltb}
use denote.Enum.Bare.{sameb}
use Rattle.format.specs.Tests.{every}
use Rattle.format.specs.Rules.{GLOBAL, OTHER, kind_of, kind_number, is_row, sized_types, sizes_in, sizes, rule, and_then}
use Rattle.format.specs.declared.SizedType.{SizedType}
use Rattle.format.specs.Answers.{passed}
use Rattle.format.proofs.Tests.{pick_no, and_left, and_right}
use Rattle.format.specs.contracts.MapKind.{the_type}
use Rattle.format.specs.declared.MapKind.{MapKind}
use Rattle.format.specs.declared.MapKind.TheVariants.{Global, Input, Output, Other}

pub same_kinds : (k j : MapKind) → sameb the_type k j ≡ eqb (kind_of k) (kind_of j)
same_kinds Global Global = refl
same_kinds Global Input = refl
same_kinds Global Output = refl
same_kinds Global Other = refl
same_kinds Input Global = refl
same_kinds Input Input = refl
same_kinds Input Output = refl
same_kinds Input Other = refl
same_kinds Output Global = refl
same_kinds Output Input = refl
same_kinds Output Output = refl
same_kinds Output Other = refl
same_kinds Other Global = refl
same_kinds Other Input = refl
same_kinds Other Output = refl
same_kinds Other Other = refl

-- the number of a kind, by a byte beyond the three
pub kind_high : (b : ℕ) → (b ≡ 0 → ⊥) → (b ≡ 1 → ⊥) → (b ≡ 2 → ⊥) → OTHER ≡ kind_number b
unfolding kind_number
kind_high b x y z = sym (rw (le-leb OTHER b (omega (arith, x, y, z))))

-- a row of one of the three
named_row : SizedType → Bool
named_row r = ltb (kind_of r.kind) OTHER

other_sizes : (k : ℕ) → OTHER ≤ k → (t n m : ℕ) (rs : List SizedType) → every named_row rs ≡ true → sizes_in rs k t n m ≡ passed
unfolding sizes_in is_row every named_row
other_sizes k h t n m [] e = refl
other_sizes k h t n m (r ∷ rs) e =
    let a = ltb-true (kind_of r.kind) OTHER (and_left (named_row r) (every named_row rs) e) in
    let no : is_row r k t ≡ false = rw (ne_eqb (kind_of r.kind) k (λ q. omega (arith, a))) in
    pick_no (is_row r k t) _ _ no
    ∙ other_sizes k h t n m rs (and_right (named_row r) (every named_row rs) e)

-- whatever the number of a kind beyond the three, a pair of such a map passes
pub other_passes : (k : ℕ) → OTHER ≤ k → (key v : List ℕ) → rule k key v ≡ passed
unfolding rule sizes and_then every named_row
other_passes k h key v = rw (other_sizes k h _ _ _ sized_types refl, ne_eqb k GLOBAL (λ q. omega arith))
