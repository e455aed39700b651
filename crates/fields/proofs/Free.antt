-- A type that isn't listed has no field rule: each row of the table has a listed type, by one computed test, and so have the three types with a rule besides.
use mathlib.Core.Path.{◌≡◌, refl, sym, ◌∙◌, ap, subst}
use mathlib.Core.List.{List, [], ◌∷◌}
use mathlib.Core.Bool.{Bool, true, false, ◌&&◌}
use Prim.Native.Nat.{ℕ}
use borrow.Author.Tests.{eqb-true}
use lib.Dec.{eqb}
use lib.ListN.{length}
use Rattle.format.specs.Tests.{every}
use Rattle.format.specs.Keys.{type_of, data_of}
use Rattle.format.specs.Rules.{GLOBAL, kind_of, span, within, listed_types, listed, sized_types, is_row, sizes_in, sizes, and_then, bare_rule, rule}
use Rattle.format.specs.declared.SizedType.{SizedType}
use Rattle.format.specs.Answers.{passed, Ruled}
use Rattle.format.proofs.Tests.{pick_by, and_left, and_right, clash, no_by}

-- a row's type is listed for its kind of map
unfoldable row_listed : SizedType → Bool
row_listed r = within (listed_types (kind_of r.kind)) r.tag

all_listed : every row_listed sized_types ≡ true
unfolding every row_listed within listed_types span
all_listed = refl

-- what is said of one kind and type is said of another pair that is the same
same_listed : (k j t s : ℕ) → (eqb k j && eqb t s) ≡ true → within (listed_types k) t ≡ true → within (listed_types j) s ≡ true
same_listed k j t s q h =
    subst (λ (x : ℕ). within (listed_types x) s ≡ true) (eqb-true k j (and_left (eqb k j) (eqb t s) q))
    (subst (λ (x : ℕ). within (listed_types k) x ≡ true) (eqb-true t s (and_right (eqb k j) (eqb t s) q)) h)

free_in : (rs : List SizedType) (k t n m : ℕ) → every row_listed rs ≡ true → within (listed_types k) t ≡ false → sizes_in rs k t n m ≡ passed
unfolding every row_listed sizes_in is_row
free_in [] k t n m a h = refl
free_in (r ∷ rs) k t n m a h =
    pick_by (λ (x : Ruled). x ≡ passed) (eqb (kind_of r.kind) k && eqb r.tag t) _ _
    (λ q. clash (within (listed_types k) t) (same_listed (kind_of r.kind) k r.tag t q (and_left _ (every row_listed rs) a)) h)
    (λ q. free_in rs k t n m (and_right (row_listed r) (every row_listed rs) a) h)

-- a global type that isn't listed is none of those listed
not_one : (t s : ℕ) → within (listed_types GLOBAL) s ≡ true → within (listed_types GLOBAL) t ≡ false → eqb t s ≡ false
not_one t s l h = no_by (eqb t s) (λ q. clash (within (listed_types GLOBAL) s) l (ap (within (listed_types GLOBAL)) (sym (eqb-true t s q)) ∙ h))

bare_free : (t : ℕ) (v : List ℕ) → within (listed_types GLOBAL) t ≡ false → bare_rule t v ≡ passed
unfolding bare_rule within listed_types span
bare_free t v h = rw (not_one t 0x00 refl h, not_one t 0x04 refl h, not_one t 0x05 refl h)

pub rule_free : (k : ℕ) (key v : List ℕ) → listed k key ≡ false → rule k key v ≡ passed
unfolding rule listed sizes and_then
rule_free k key v h =
    let n : ℕ = length (data_of key) in
    rw (free_in sized_types k (type_of key) n (length v) all_listed h)
    (pick_by (λ (x : Ruled). x ≡ passed) (eqb k GLOBAL && eqb n 0) _ _
    (λ q. bare_free (type_of key) v
    (subst (λ (x : ℕ). within (listed_types x) (type_of key) ≡ false) (eqb-true k GLOBAL (and_left (eqb k GLOBAL) (eqb n 0) q)) h))
    (λ q. refl))
