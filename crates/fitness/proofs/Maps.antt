-- Laws of the asked map: its entry says what the definition says by its pairs.
use mathlib.Core.Path.{◌≡◌, refl, sym, ◌∙◌, ap}
use mathlib.Core.Bool.{Bool, true, false}
use mathlib.Core.List.{List, [], ◌∷◌}
use Prim.Native.Nat.{ℕ, ◌+◌, ◌-◌, ◌^◌, ◌≤◌, ◌<◌}
use native.Mathlib.Omega.{arith}
use borrow.Author.Tests.{le-leb, lt-leb, lt-ltb, le-ltb, leb-true, leb-false}
use lib.Dec.{leb, ltb}
use lib.ListN.{length, drop, drop_of_length-le}
use Rattle.format.specs.Tests.{pick}
use Rattle.format.specs.Entries.{pair_entries, map_entries}
use Rattle.format.specs.Tables.{Held, no, holds, fit, fitted, held_by_def, maps_reported, held, held_input, held_output}
use Rattle.format.specs.declared.PsbtError.{PsbtError}
use Rattle.format.specs.declared.PsbtError.TheVariants.{OutOfRange, BadIndex}
use Rattle.format.specs.declared.MapEntry.{MapEntry}
use Rattle.format.specs.declared.Psbt.{Psbt}
use Rattle.format.proofs.Tests.{pick_by, pick_ap}
use Rattle.entries.specs.Words.{pair_count, map_count, map_at}
use Rattle.entries.proofs.Tables.{map_count_lem, map_here}
use Rattle.fitness.specs.Fits.{run, entries_of, held_of, fit_entry, fit_by, not_listed, fit_at, fit_input, fit_output, Within, Sound, Fit}
use Rattle.std.specs.Prelude.{Ok, Err}

-- a map's entry, by what was tested of it
module _ (f P : List ℕ) (m : MapEntry) (n : ℕ) (is : n ≡ pair_count P) where
  too_far : pair_count P < m.first + m.count → Err BadIndex ≡ fit_entry f P m
  unfolding fit_entry
  too_far h = sym (rw (lt-leb (m.first + m.count) (pair_count P) h))

  pub first_far : n < m.first → Err BadIndex ≡ fit_entry f P m
  first_far h = too_far (omega arith)

  module _ (a : m.first ≤ n) where
    pub end_far : n - m.first < m.count → Err BadIndex ≡ fit_entry f P m
    end_far h = too_far (omega arith)

    module _ (b : m.count ≤ n - m.first) where
      pub named_in : m.first + m.count ≤ pair_count P
      named_in = omega arith

      module _ (r : Bool) (e : r ≡ fit f [] (entries_of P m)) where
        named : fit_entry f P m ≡ pick r (Ok m) (Err BadIndex)
        unfolding fit_entry
        named = rw (le-leb (m.first + m.count) (pair_count P) named_in, ← e)

        pub named_fit : r ≡ true → Ok m ≡ fit_entry f P m
        named_fit q = sym (named ∙ rw q)

        pub named_unfit : r ≡ false → Err BadIndex ≡ fit_entry f P m
        named_unfit q = sym (named ∙ rw q)

pub ruleset named_entries = (first_far, end_far, named_in, named_fit, named_unfit)

-- a map's number, against a sum that may not fit
module _ (s : Psbt) (m : ℕ) where
  pub reported_low : m ≤ s.inputs → leb m s.inputs ≡ ltb m (maps_reported s)
  unfolding maps_reported
  reported_low h = le-leb m s.inputs h ∙ sym (lt-ltb m (1 + (s.inputs + s.outputs)) (omega arith))

  pub reported_high : s.inputs < m → leb (m - s.inputs) s.outputs ≡ ltb m (maps_reported s)
  unfolding maps_reported
  reported_high h = by (leb (m - s.inputs) s.outputs) refl
    where
      by : (b : Bool) → leb (m - s.inputs) s.outputs ≡ b → leb (m - s.inputs) s.outputs ≡ ltb m (1 + (s.inputs + s.outputs))
      by true q = q ∙ sym (lt-ltb m (1 + (s.inputs + s.outputs)) (omega (arith, leb-true (m - s.inputs) s.outputs q)))
      by false q = q ∙ sym (le-ltb m (1 + (s.inputs + s.outputs)) (omega (arith, leb-false (m - s.inputs) s.outputs q)))

pub ruleset reported = (reported_low, reported_high)

-- map number m
module _ (f P M : List ℕ) (s : Psbt) (m : ℕ) (b : Bool) (is : b ≡ ltb m (maps_reported s)) where
  pub map_unreported : b ≡ false → Err OutOfRange ≡ fit_at f P M s m
  unfolding fit_at
  map_unreported q = sym (rw (sym is ∙ q))

  module _ (n : ℕ) (count : n ≡ map_count M) where
    pub map_missing : n ≤ m → (r : Fit) → r ≡ not_listed b → r ≡ fit_at f P M s m
    unfolding fit_at fit_by map_count not_listed
    map_missing h r e = e ∙ sym (rw (sym is, drop_of_length-le (map_entries M) {i = m} (omega arith)))

    pub map_there : b ≡ true → m < n → (e : MapEntry) → e ≡ map_at M m → (r : Fit) → r ≡ fit_entry f P e → r ≡ fit_at f P M s m
    unfolding fit_at fit_by
    map_there q h e at r k = k ∙ sym (rw (sym is ∙ q, map_here M m (omega arith), ← at))

pub ruleset map_numbers = (map_unreported, map_missing, map_there)

-- input number i, and output number i: a sum that does not fit names no entry
module _ (f P M : List ℕ) (s : Psbt) (i : ℕ) where
  pub input_far : s.inputs ≤ i → Err OutOfRange ≡ fit_input f P M s i
  unfolding fit_input
  input_far h = sym (rw (le-ltb i s.inputs h))

  pub input_near : i < s.inputs → (r : Fit) → r ≡ fit_at f P M s (1 + i) → r ≡ fit_input f P M s i
  unfolding fit_input
  input_near h r e = e ∙ sym (rw (lt-ltb i s.inputs h))

  pub output_far : s.outputs ≤ i → Err OutOfRange ≡ fit_output f P M s i
  unfolding fit_output
  output_far h = sym (rw (le-ltb i s.outputs h))

  module _ (h : i < s.outputs) where
    pub output_near : (r : Fit) → r ≡ fit_at f P M s (1 + (s.inputs + i)) → r ≡ fit_output f P M s i
    unfolding fit_output
    output_near r e = e ∙ sym (rw (lt-ltb i s.outputs h))

    pub output_missing : 18446744073709551615 - s.inputs ≤ i → length M < 2 ^ 64 → Err BadIndex ≡ fit_output f P M s i
    unfolding maps_reported not_listed
    output_missing g l =
        output_near (Err BadIndex)
        (map_missing f P M s (1 + (s.inputs + i)) true (sym (lt-ltb (1 + (s.inputs + i)) (1 + (s.inputs + s.outputs)) (omega arith))) (map_count M) refl
        (omega (arith, map_count_lem M)) (Err BadIndex) refl)

pub ruleset by_numbers = (input_far, input_near, output_far, output_near, output_missing)

-- the asked map by its entry is the asked map
held_by : (f P : List ℕ) (ms : List MapEntry) → held_of P (fit_by f P ms) ≡ held_by_def f (pair_entries P) ms
unfolding fit_by fit_entry held_of held_by_def fitted entries_of run pair_count
held_by f P [] = refl
held_by f P (m ∷ ms) =
    pick_ap (held_of P) (leb (m.first + m.count) (pair_count P)) _ _
    ∙ rw (pick_ap (held_of P) (fit f [] (entries_of P m)) (Ok m) (Err BadIndex))

held_at : (f P M : List ℕ) (s : Psbt) (m : ℕ) → held_of P (fit_at f P M s m) ≡ held f P M s m
unfolding fit_at held_of held
held_at f P M s m = pick_ap (held_of P) (ltb m (maps_reported s)) _ _ ∙ rw (held_by f P (drop m (map_entries M)))

-- the pairs that it names are in the table, and fit
refusal_sound : (f P : List ℕ) (e : PsbtError) → Sound f P (Err e)
refusal_sound f P e =
    record {
      within = record { inside = λ m q. let z : ◌≡◌ {A = ℕ} 0 1 = cc in absurd (omega arith) };
      fits = λ m q. let z : ◌≡◌ {A = ℕ} 0 1 = cc in absurd (omega arith);
    }

entry_sound : (f P : List ℕ) (m : MapEntry) → Sound f P (fit_entry f P m)
unfolding fit_entry
entry_sound f P m =
    pick_by (Sound f P) (leb (m.first + m.count) (pair_count P)) _ _
    (λ q. pick_by (Sound f P) (fit f [] (entries_of P m)) _ _
    (λ w. record {
      within = record { inside = λ x e. let y : m ≡ x = cc in rw (← y) (leb-true (m.first + m.count) (pair_count P) q) };
      fits = λ x e. let y : m ≡ x = cc in rw (← y) w;
    })
    (λ w. refusal_sound f P BadIndex))
    (λ q. refusal_sound f P BadIndex)

by_sound : (f P : List ℕ) (ms : List MapEntry) → Sound f P (fit_by f P ms)
unfolding fit_by
by_sound f P [] = refusal_sound f P BadIndex
by_sound f P (m ∷ ms) = entry_sound f P m

at_sound : (f P M : List ℕ) (s : Psbt) (m : ℕ) → Sound f P (fit_at f P M s m)
unfolding fit_at
at_sound f P M s m =
    pick_by (Sound f P) (ltb m (maps_reported s)) _ _ (λ q. by_sound f P (drop m (map_entries M))) (λ q. refusal_sound f P OutOfRange)

-- what callers learn of a map, an input, an output
module _ (f P M : List ℕ) (s : Psbt) (m : ℕ) (r : Fit) where
  pub map_held : r ≡ fit_at f P M s m → held_of P r ≡ held f P M s m
  map_held e = ap (held_of P) e ∙ held_at f P M s m

  pub map_sound : r ≡ fit_at f P M s m → Sound f P r
  map_sound e = rw e (at_sound f P M s m)

  pub map_within : r ≡ fit_at f P M s m → Within P r
  map_within e = (map_sound e).within

  pub input_held : r ≡ fit_input f P M s m → held_of P r ≡ held_input f P M s m
  unfolding fit_input held_input held_of
  input_held e = ap (held_of P) e ∙ pick_ap (held_of P) (ltb m s.inputs) _ _ ∙ rw (held_at f P M s (1 + m))

  pub input_sound : r ≡ fit_input f P M s m → Sound f P r
  unfolding fit_input
  input_sound e = rw e (pick_by (Sound f P) (ltb m s.inputs) _ _ (λ q. at_sound f P M s (1 + m)) (λ q. refusal_sound f P OutOfRange))

  pub input_within : r ≡ fit_input f P M s m → Within P r
  input_within e = (input_sound e).within

  pub output_held : r ≡ fit_output f P M s m → held_of P r ≡ held_output f P M s m
  unfolding fit_output held_output held_of
  output_held e = ap (held_of P) e ∙ pick_ap (held_of P) (ltb m s.outputs) _ _ ∙ rw (held_at f P M s (1 + (s.inputs + m)))

  pub output_sound : r ≡ fit_output f P M s m → Sound f P r
  unfolding fit_output
  output_sound e = rw e (pick_by (Sound f P) (ltb m s.outputs) _ _ (λ q. at_sound f P M s (1 + (s.inputs + m))) (λ q. refusal_sound f P OutOfRange))

  pub output_within : r ≡ fit_output f P M s m → Within P r
  output_within e = (output_sound e).within

-- the map that an entry names, or the refusal, is the asked map
module _ (P : List ℕ) (r : Fit) (h : Held) (q : held_of P r ≡ h) where
  pub held_ok : (m : MapEntry) → r ≡ Ok m → holds (entries_of P m) ≡ h
  unfolding held_of
  held_ok m e = sym (ap (held_of P) e) ∙ q

  pub held_err : (e : PsbtError) → r ≡ Err e → no e ≡ h
  unfolding held_of
  held_err e x = sym (ap (held_of P) x) ∙ q

pub within_is : (P : List ℕ) (r : Fit) (m : MapEntry) → Within P r → r ≡ Ok m → m.first + m.count ≤ pair_count P
within_is P r m h e = h.inside m e

pub ruleset fits = (map_within, input_within, output_within, within_is)
