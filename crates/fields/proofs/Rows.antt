-- Laws of the table of sized types, of any table: what the rows from a place on say is what the whole says, as long as no row before it is about the type.
use mathlib.Core.Path.{◌≡◌, sym, ◌∙◌, ap}
use mathlib.Core.List.{List, ◌∷◌}
use mathlib.Core.Bool.{Bool, true, false, not}
use Prim.Native.Nat.{ℕ, suc, ◌+◌, ◌≤◌, ◌<◌}
use native.Mathlib.Numerals.{add-one}
use native.Mathlib.Omega.{arith}
use borrow.Author.Tests.{eq-eqb, ne_eqb}
use denote.Enum.Bare.{sameb}
use lib.Dec.{eqb}
use lib.ListN.{length, get_or, drop, drop_of_length-le}
use lib.Seq.{drop-cons}
use Rattle.format.specs.Rules.{kind_of, value_fits, is_row, row_rule, sizes_in}
use Rattle.format.specs.contracts.MapKind.{the_type}
use Rattle.format.specs.declared.MapKind.{MapKind}
use Rattle.format.specs.declared.MapKind.TheVariants.{Global}
use Rattle.format.specs.declared.SizedType.{SizedType}
use Rattle.format.specs.Answers.{passed, Ruled}
use Rattle.std.specs.Prelude.{Err}
use Rattle.format.specs.declared.PsbtError.TheVariants.{BadValue}
use Rattle.format.proofs.MapKinds.{same_kinds}
use Rattle.format.proofs.Tests.{pick_yes, pick_no}
use Rattle.fields.specs.Rows.{is_kept, both_fit}

-- a row is about a type, by the test of its kind of map
module _ (r : SizedType) (k : MapKind) (t : ℕ) (b : Bool) (e : b ≡ sameb the_type r.kind k) where
  pub about_kind : b ≡ true → eqb r.tag t ≡ is_row r (kind_of k) t
  unfolding is_row
  about_kind h = sym (rw (sym (same_kinds r.kind k) ∙ sym e ∙ h))

  pub about_other : b ≡ false → b ≡ is_row r (kind_of k) t
  unfolding is_row
  about_other h = h ∙ sym (rw (sym (same_kinds r.kind k) ∙ sym e ∙ h))

-- one row
module _ (r : SizedType) (n m : ℕ) where
  pub kept_bare : r.bare ≡ true → not (eqb n 0) ≡ is_kept r n
  unfolding is_kept
  kept_bare h = rw h

  pub kept_not : r.bare ≡ false → r.bare ≡ is_kept r n
  unfolding is_kept
  kept_not h = rw h

  pub fit_value : n ≡ r.dlen → (b : Bool) → b ≡ value_fits r.vlen m → b ≡ both_fit r n m
  unfolding both_fit
  fit_value h b e = rw (eq-eqb n r.dlen h) e

  pub fit_not : (n ≡ r.dlen → ⊥) → eqb n r.dlen ≡ both_fit r n m
  unfolding both_fit
  fit_not h = rw (ne_eqb n r.dlen h)

  module _ (k : Bool) (e : k ≡ is_kept r n) where
    pub rule_kept : k ≡ true → passed ≡ row_rule r n m
    unfolding row_rule is_kept
    rule_kept h = sym (pick_yes _ _ _ (sym e ∙ h))

    module _ (h : k ≡ false) (f : Bool) (w : f ≡ both_fit r n m) where
      pub rule_fits : f ≡ true → passed ≡ row_rule r n m
      unfolding row_rule is_kept both_fit
      rule_fits q = sym (pick_no _ _ _ (sym e ∙ h) ∙ pick_yes _ _ _ (sym w ∙ q))

      pub rule_breach : f ≡ false → Err BadValue ≡ row_rule r n m
      unfolding row_rule is_kept both_fit
      rule_breach q = sym (pick_no _ _ _ (sym e ∙ h) ∙ pick_no _ _ _ (sym w ∙ q))

pub ruleset row = (about_kind, about_other, kept_bare, kept_not, fit_value, fit_not, rule_kept, rule_fits, rule_breach)

-- what a row past the end would be
abbrev pub none : SizedType
none = record { kind = Global; tag = 0; dlen = 0; vlen = 0; bare = false }

module _ (rs : List SizedType) (k t n m i : ℕ) (h : i < length rs) (b : Bool) (e : b ≡ is_row (get_or rs i none) k t) where
  look : sizes_in (drop i rs) k t n m ≡ sizes_in (get_or rs i none ∷ drop (suc i) rs) k t n m
  look = ap (λ (l : List SizedType). sizes_in l k t n m) (drop-cons rs i none h)

  found : b ≡ true → row_rule (get_or rs i none) n m ≡ sizes_in (drop i rs) k t n m
  unfolding sizes_in
  found q = sym (look ∙ pick_yes _ _ _ (sym e ∙ q))

  behind : b ≡ false → sizes_in (drop i rs) k t n m ≡ sizes_in (drop (i + 1) rs) k t n m
  unfolding sizes_in
  behind q = look ∙ pick_no _ _ _ (sym e ∙ q) ∙ rw add-one

-- the rows from one on say what all say
abbrev pub From : List SizedType → ℕ → ℕ → ℕ → ℕ → ℕ → Type 0
From rs k t n m i = sizes_in (drop i rs) k t n m ≡ sizes_in rs k t n m

module _ (rs : List SizedType) (k t n m i : ℕ) (on : From rs k t n m i) where
  pub row_found : i < length rs → (b : Bool) → b ≡ is_row (get_or rs i none) k t
      → b ≡ true → (r : Ruled) → r ≡ row_rule (get_or rs i none) n m → r ≡ sizes_in rs k t n m
  row_found h b e q r w = w ∙ found rs k t n m i h b e q ∙ on

  pub row_passed : i < length rs → (b : Bool) → b ≡ is_row (get_or rs i none) k t → b ≡ false → From rs k t n m (i + 1)
  row_passed h b e q = sym (behind rs k t n m i h b e q) ∙ on

  pub row_free : (z : ℕ) → length rs ≡ z → z ≤ i → passed ≡ sizes_in rs k t n m
  unfolding sizes_in
  row_free z e h = let w : length rs ≤ i = omega arith in sym (ap (λ (l : List SizedType). sizes_in l k t n m) (drop_of_length-le rs w)) ∙ on

pub ruleset rows = (row_found, row_passed, row_free)
