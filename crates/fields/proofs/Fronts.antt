-- A pair's field rule is that of its lengths and its value's first nine bytes: no compact size is longer.
use mathlib.Core.Path.{◌≡◌, refl, sym, ◌∙◌, ap}
use mathlib.Core.List.{List}
use mathlib.Core.Bool.{Bool, true, false}
use Prim.Native.Nat.{ℕ}
use borrow.Author.Tests.{eq-eqb, ne_eqb}
use denote.Enum.Bare.{sameb}
use lib.Dec.{eqb}
use lib.ListN.{length, take}
use Rattle.format.specs.Tests.{pick}
use Rattle.format.specs.Compact.{size, count, count_by_def}
use Rattle.format.specs.Keys.{type_of, data_of}
use Rattle.format.specs.Rules.{kind_of, bare_rule, rule, sizes, count_rule, and_then}
use Rattle.format.specs.contracts.MapKind.{the_type}
use Rattle.format.specs.declared.MapKind.{MapKind}
use Rattle.format.specs.declared.MapKind.TheVariants.{Global}
use Rattle.format.specs.declared.PsbtError.{PsbtError}
use Rattle.format.specs.declared.PsbtError.TheVariants.{NotAllowed}
use Rattle.format.specs.declared.CompactSize.{CompactSize}
use Rattle.format.specs.Answers.{passed, Ruled, Size}
use Rattle.std.specs.Prelude.{Ok, Err}
use Rattle.wire.proofs.Sizes.{size_front}
use Rattle.format.proofs.MapKinds.{same_kinds}
use Rattle.format.proofs.Tests.{pick_yes, pick_no}
use Rattle.fields.specs.Fronts.{is_count, bare_rule_by, is_bare, rule_by}

-- the whole value is a front
pub rule_whole : (k : ℕ) (key v : List ℕ) → rule k key v ≡ rule_by k (type_of key) (length (data_of key)) (length v) v
unfolding rule bare_rule count rule_by is_bare bare_rule_by is_count
rule_whole k key v = refl

-- its first nine bytes are enough
pub rule_front : (k : ℕ) (key v : List ℕ) → rule k key v ≡ rule_by k (type_of key) (length (data_of key)) (length v) (take 9 v)
unfolding rule_by bare_rule_by
rule_front k key v = rule_whole k key v ∙ rw (size_front v)

-- what a count field's value is read as, by the case
module _ (m : ℕ) (s : List ℕ) (z : Size) (is : z ≡ count_by_def m (size s)) where
  pub count_bad : (e : PsbtError) → z ≡ Err e → Err e ≡ count_rule (count_by_def m (size s))
  unfolding count_rule
  count_bad e q = sym (ap count_rule (sym is ∙ q))

  pub count_read : (r : CompactSize) → z ≡ Ok r → passed ≡ count_rule (count_by_def m (size s))
  unfolding count_rule
  count_read r q = sym (ap count_rule (sym is ∙ q))

pub ruleset counts = (count_bad, count_read)

-- a global key without data, by the test of its kind of map
module _ (k : MapKind) (n : ℕ) (b : Bool) (e : b ≡ sameb the_type k Global) where
  pub bare_global : b ≡ true → eqb n 0 ≡ is_bare (kind_of k) n
  unfolding is_bare
  bare_global h = sym (rw (sym (same_kinds k Global) ∙ sym e ∙ h))

  pub bare_elsewhere : b ≡ false → b ≡ is_bare (kind_of k) n
  unfolding is_bare
  bare_elsewhere h = h ∙ sym (rw (sym (same_kinds k Global) ∙ sym e ∙ h))

-- what is asked of one besides sizes
module _ (t m : ℕ) (s : List ℕ) where
  pub bare_unsigned : t ≡ 0x00 → Err NotAllowed ≡ bare_rule_by t m s
  unfolding bare_rule_by
  bare_unsigned h = sym (pick_yes _ _ _ (eq-eqb t 0x00 h))

  module _ (h : t ≡ 0x00 → ⊥) (b : Bool) (e : b ≡ is_count t) where
    pub bare_count : b ≡ true → (r : Ruled) → r ≡ count_rule (count_by_def m (size s)) → r ≡ bare_rule_by t m s
    unfolding bare_rule_by
    bare_count q r w = w ∙ sym (pick_no _ _ _ (ne_eqb t 0x00 h) ∙ pick_yes _ _ _ (sym e ∙ q))

    pub bare_other : b ≡ false → passed ≡ bare_rule_by t m s
    unfolding bare_rule_by
    bare_other q = sym (pick_no _ _ _ (ne_eqb t 0x00 h) ∙ pick_no _ _ _ (sym e ∙ q))

pub ruleset bares = (bare_global, bare_elsewhere, bare_unsigned, bare_count, bare_other)

-- a pair, by what the table says of it
module _ (k t n m : ℕ) (s : List ℕ) (y : Ruled) (is : y ≡ sizes k t n m) where
  after : (x : Ruled) → y ≡ x → rule_by k t n m s ≡ and_then x (pick (is_bare k n) (bare_rule_by t m s) passed)
  unfolding rule_by
  after x q = ap (λ (z : Ruled). and_then z (pick (is_bare k n) (bare_rule_by t m s) passed)) (sym is ∙ q)

  pub field_refused : (e : PsbtError) → y ≡ Err e → Err e ≡ rule_by k t n m s
  unfolding and_then
  field_refused e q = sym (after (Err e) q)

  module _ (q : y ≡ passed) (b : Bool) (e : b ≡ is_bare k n) where
    pub field_bare : b ≡ true → (r : Ruled) → r ≡ bare_rule_by t m s → r ≡ rule_by k t n m s
    unfolding and_then
    field_bare h r w = w ∙ sym (after passed q ∙ pick_yes _ _ _ (sym e ∙ h))

    pub field_passed : b ≡ false → passed ≡ rule_by k t n m s
    unfolding and_then
    field_passed h = sym (after passed q ∙ pick_no _ _ _ (sym e ∙ h))

pub ruleset fronts = (field_refused, field_bare, field_passed)
