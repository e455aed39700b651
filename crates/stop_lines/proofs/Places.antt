-- Laws of the place where a parse stopped, a law for each way through the code; and of its line.
use mathlib.Core.Path.{◌≡◌, refl, sym, ◌∙◌, ap, ap₂}
use mathlib.Core.Bool.{Bool, true, false}
use mathlib.Core.List.{List, []}
use Prim.Native.Nat.{ℕ, zero, suc, ◌+◌, ◌-◌, ◌*◌, ◌≤◌, ◌<◌}
use native.Mathlib.Omega.{arith}
use borrow.Author.Tests.{lt-ltb, eq-eqb, ne_eqb}
use lib.Dec.{eqb}
use lib.ListN.{get_or, get_or-eq_default}
use mir.Syntax.{w32, w64}
use mir.Val.{Fits}
use Rattle.format.specs.Refusals.{number_of}
use Rattle.format.specs.Compact.{size}
use Rattle.format.specs.Keys.{key_of}
use Rattle.format.specs.Content.{counted, size_value}
use Rattle.format.specs.Entries.{pair_entries, map_entries}
use Rattle.format.specs.Tables.{Held, held_by_def, maps_reported, held, view_of}
use Rattle.format.specs.Lookups.{part, look}
use Rattle.format.specs.declared.PsbtError.{PsbtError}
use Rattle.format.specs.declared.PsbtError.TheVariants.{InvalidMagic, MissingCounts, NotAllowed, TooLong}
use Rattle.format.specs.declared.MapEntry.{MapEntry}
use Rattle.format.specs.declared.Psbt.{Psbt}
use Rattle.format.specs.declared.CompactSize.{CompactSize}
use Rattle.format.specs.Answers.{Looked, Size}
use Rattle.std.specs.Prelude.{Ok, Err, Some, None}
use Rattle.format.proofs.Tests.{pick_yes}
use Rattle.entries.specs.Words.{map_count, no_map, map_at, map_from}
use Rattle.entries.proofs.Tables.{map_words_lem}
use Rattle.claims_reading.specs.Found.{found_at, find_in}
use Rattle.claims_reading.proofs.Found.{look_find}
use Rattle.text.specs.Spots.{Spot, lay}
use Rattle.text.specs.Say.{say}
use Rattle.text.specs.Spelled.{decimal}
use Rattle.text.proofs.Chains.{chain2, chain3}
use Rattle.reasons.proofs.Meanings.{by_case}
use Rattle.stop_lines.specs.Stops.{one_of, behind_global, in_map_def, place_at, pairs_before, pairs_passed, global_shown, count_shown, stopped, after_pairs}
use Rattle.stop_lines.specs.Stops.{stop_line}
use Rattle.stop_lines.specs.declared.Place.{Place}
use Rattle.stop_lines.specs.declared.Place.TheVariants.{Nowhere, Global, GlobalEnd}

-- one of two refusals
module _ (e a b : PsbtError) (n x : ℕ) (is : n ≡ number_of e) (q : x ≡ number_of a) where
  pub one_first : n ≡ x → eqb n x ≡ one_of e a b
  unfolding one_of
  one_first h = eq-eqb n x h ∙ sym (rw (eq-eqb (number_of e) (number_of a) (sym is ∙ h ∙ q)))

  pub one_second : (n ≡ x → ⊥) → (y : ℕ) → y ≡ number_of b → eqb n y ≡ one_of e a b
  unfolding one_of
  one_second h y p = ap₂ eqb is p ∙ sym (rw (ne_eqb (number_of e) (number_of a) (λ z. h (is ∙ z ∙ sym q))))

pub ruleset two_refusals = (one_first, one_second)

-- the pairs of the maps before
pub before_none : (M : List ℕ) (m : ℕ) → m ≡ 0 → 0 ≡ pairs_before M m
unfolding pairs_before
before_none M m h = sym (ap (pairs_before M) h)

pub before_past : (M : List ℕ) (m n : ℕ) → n ≡ map_count M → n < m → 0 ≡ pairs_before M m
unfolding pairs_before map_at map_count
before_past M zero n q h = refl
before_past M (suc i) n q h =
    let z : get_or (map_entries M) i no_map ≡ no_map = get_or-eq_default (map_entries M) no_map (omega arith) in
    sym (ap (λ (x : MapEntry). x.first + x.count) z)

module _ (M : List ℕ) (m n : ℕ) (some : m ≡ 0 → ⊥) (q : n ≡ map_count M) (l : m ≤ n) where
  pub before_in : m - 1 < map_count M
  before_in = by m some l
    where
      by : (m : ℕ) → (m ≡ 0 → ⊥) → m ≤ n → m - 1 < map_count M
      by zero h k = absurd (h refl)
      by (suc i) h k = omega arith

  pub before_fits : (e : MapEntry) → e ≡ map_at M (m - 1) → ((j : ℕ) → Fits w32 (get_or M j 0)) → Fits w64 (e.first + e.count)
  unfolding map_from
  before_fits e r w =
      let k : e ≡ map_from M ((m - 1) * 2) = r ∙ sym (map_words_lem (m - 1) M before_in) in
      let a : e.first ≡ get_or M ((m - 1) * 2) 0 = ap (λ (x : MapEntry). x.first) k in
      let b : e.count ≡ get_or M ((m - 1) * 2 + 1) 0 = ap (λ (x : MapEntry). x.count) k in
      record { fits = omega (arith, w ((m - 1) * 2), w ((m - 1) * 2 + 1)) }

  pub before_last : (e : MapEntry) → e ≡ map_at M (m - 1) → e.first + e.count ≡ pairs_before M m
  unfolding pairs_before
  before_last e r = by m some r
    where
      by : (m : ℕ) → (m ≡ 0 → ⊥) → e ≡ map_at M (m - 1) → e.first + e.count ≡ pairs_before M m
      by zero h k = absurd (h refl)
      by (suc i) h k = let z : suc i - 1 ≡ i = omega arith in ap (λ (x : MapEntry). x.first + x.count) (k ∙ ap (map_at M) z)

pub ruleset befores = (before_none, before_past, before_in, before_fits, before_last)

-- a count field, by the part of the file that its lookup hands back
part_counts : (f : List ℕ) (y : Looked) → size_value (size (part f y)) ≡ counted (found_at f y)
unfolding part counted found_at size size_value
part_counts f (Err e) = refl
part_counts f (Ok None) = refl
part_counts f (Ok (Some p)) = refl

global_held : (f P M : List ℕ) (s : Psbt) → held f P M s 0 ≡ held_by_def f (pair_entries P) (map_entries M)
unfolding held maps_reported
global_held f P M s = pick_yes _ _ _ (lt-ltb 0 (1 + (s.inputs + s.outputs)) (omega arith))

module _ (f P M v : List ℕ) (t : ℕ) (s : Psbt) (z : Size) (is : v ≡ part f (look f t [] (held f P M s 0))) (q : z ≡ size v) where
  count_is : size_value z ≡ count_shown f P M t
  unfolding count_shown global_shown
  count_is =
      ap size_value (q ∙ ap size is)
      ∙ part_counts f (look f t [] (held f P M s 0))
      ∙ ap counted (look_find f t [] (held f P M s 0) ∙ ap (λ (h : Held). find_in (key_of t []) (view_of f h)) (global_held f P M s))

  pub count_none : (e : PsbtError) → z ≡ Err e → 0 ≡ count_shown f P M t
  unfolding size_value
  count_none e w = sym (ap size_value w) ∙ count_is

  pub count_read : (r : CompactSize) → z ≡ Ok r → r.value ≡ count_shown f P M t
  unfolding size_value
  count_read r w = sym (ap size_value w) ∙ count_is

pub ruleset counts = (count_none, count_read)

-- the place
module _ (e : PsbtError) (m k ins outs : ℕ) (b : Bool) (is : b ≡ one_of e InvalidMagic TooLong) where
  pub place_nowhere : b ≡ true → Nowhere ≡ place_at e m k ins outs
  unfolding place_at
  place_nowhere h = sym (rw (sym is ∙ h))

  module _ (read : b ≡ false) where
    in_map : in_map_def e m k ins outs ≡ place_at e m k ins outs
    unfolding place_at
    in_map = sym (rw (sym is ∙ read))

    pub place_global : m ≡ 0 → Global k ≡ place_at e m k ins outs
    unfolding in_map_def
    place_global h = sym (ap (λ (n : ℕ). in_map_def e n k ins outs) h) ∙ in_map

    module _ (some : m ≡ 0 → ⊥) (c : Bool) (q : c ≡ one_of e MissingCounts NotAllowed) where
      next : (n : ℕ) → (n ≡ 0 → ⊥) → suc (n - 1) ≡ n
      next zero h = absurd (h refl)
      next (suc n) h = omega arith

      later : in_map_def e (suc (m - 1)) k ins outs ≡ place_at e m k ins outs
      later = ap (λ (n : ℕ). in_map_def e n k ins outs) (next m some) ∙ in_map

      pub place_end : c ≡ true → GlobalEnd ≡ place_at e m k ins outs
      unfolding in_map_def
      place_end h = sym (rw (sym q ∙ h)) ∙ later

      pub place_behind : c ≡ false → (r : Place) → r ≡ behind_global (m - 1) k ins outs → r ≡ place_at e m k ins outs
      unfolding in_map_def
      place_behind h r w = w ∙ sym (rw (sym q ∙ h)) ∙ later

pub ruleset places = (place_nowhere, place_global, place_end, place_behind)

pub stopped_is : (f P M : List ℕ) (e : PsbtError) (p m k ins outs : ℕ) (r : Place) → k ≡ pairs_passed M p m → ins ≡ count_shown f P M 0x04
    → outs ≡ count_shown f P M 0x05 → r ≡ place_at e m k ins outs → r ≡ stopped f P M e p m
unfolding stopped
stopped_is f P M e p m k ins outs r a b c w = w ∙ rw (a, b, c)

-- the line
pub after_one : (s t₁ t₂ t₃ : Spot) (k : ℕ) → k ≡ 1 → t₁ ≡ lay s (say ", after ") → t₂ ≡ lay t₁ (decimal k) → t₃ ≡ lay t₂ (say " pair\n")
    → t₃ ≡ lay s (after_pairs k)
unfolding after_pairs
after_one s t₁ t₂ t₃ k h a b c = chain3 s t₁ t₂ t₃ _ _ _ _ a b c (rw (eq-eqb k 1 h))

pub after_more : (s t₁ t₂ t₃ : Spot) (k : ℕ) → (k ≡ 1 → ⊥) → t₁ ≡ lay s (say ", after ") → t₂ ≡ lay t₁ (decimal k) → t₃ ≡ lay t₂ (say " pairs\n")
    → t₃ ≡ lay s (after_pairs k)
unfolding after_pairs
after_more s t₁ t₂ t₃ k h a b c = chain3 s t₁ t₂ t₃ _ _ _ _ a b c (rw (ne_eqb k 1 h))

pub ruleset afters = (after_one, after_more)

pub line_none : (s : Spot) (x : Place) → x ≡ Nowhere → s ≡ lay s (stop_line x)
unfolding stop_line lay
line_none s x e = sym (ap (λ (y : Place). lay s (stop_line y)) e)

pub line_global : (s t₁ t₂ : Spot) (x : Place) (k : ℕ) → x ≡ Global k → t₁ ≡ lay s (say "stopped in the global map") → t₂ ≡ lay t₁ (after_pairs k)
    → t₂ ≡ lay s (stop_line x)
unfolding stop_line
line_global s t₁ t₂ x k e a b = chain2 s t₁ t₂ _ _ _ a b (ap stop_line e)

pub line_by : (s t : Spot) (x y : Place) (b : List ℕ) → x ≡ y → t ≡ lay s b → b ≡ stop_line y → t ≡ lay s (stop_line x)
line_by s t x y b e h q = by_case stop_line s t x y b e q h

pub line_is : (s t : Spot) (x y : Place) → y ≡ x → t ≡ lay s (stop_line y) → t ≡ lay s (stop_line x)
line_is s t x y e h = h ∙ ap (λ (z : Place). lay s (stop_line z)) e

pub ruleset stop_lines = (line_none, line_global, line_by)
