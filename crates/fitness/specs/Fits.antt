-- What the asked map is, by its entry: the same as the definition's, which says it by the map's pairs.
use Rattle.std.specs.Prelude.{ℕ, ◌+◌, ◌≤◌, ◌≡◌, Bool, true, List, [], ◌∷◌, take, drop, leb, ltb, Ok, Err}
use Rattle.format.specs.Tests.{pick}
use Rattle.format.specs.Entries.{pair_entries, map_entries}
use Rattle.format.specs.Tables.{fit, Held, no, holds, maps_reported}
use Rattle.format.specs.declared.PsbtError.TheVariants.{OutOfRange, BadIndex}
use Rattle.format.specs.declared.PairEntry.{PairEntry}
use Rattle.format.specs.Answers.{Answer}
use Rattle.format.specs.declared.MapEntry.{MapEntry}
use Rattle.format.specs.declared.Psbt.{Psbt}
use Rattle.entries.specs.Words.{pair_count}

-- the entry of the asked map, whose pairs are all fit, or the refusal
abbrev pub Fit : Type 0
Fit = Answer MapEntry

-- n pairs from number i on
unfoldable pub run : List ℕ → ℕ → ℕ → List PairEntry
run P i n = take n (drop i (pair_entries P))

-- the pairs that a map's entry names
unfoldable pub entries_of : List ℕ → MapEntry → List PairEntry
entries_of P m = run P m.first m.count

-- the map of an entry
unfoldable pub held_of : List ℕ → Fit → Held
held_of P (Err e) = no e
held_of P (Ok m) = holds (entries_of P m)

-- a map's entry, where the pairs that it names are there and fit
unfoldable pub fit_entry : List ℕ → List ℕ → MapEntry → Fit
fit_entry f P m = pick (leb (m.first + m.count) (pair_count P)) (pick (fit f [] (entries_of P m)) (Ok m) (Err BadIndex)) (Err BadIndex)

-- a map that the table doesn't have
unfoldable pub not_listed : Bool → Fit
not_listed reported = pick reported (Err BadIndex) (Err OutOfRange)

-- the first map entry
unfoldable pub fit_by : List ℕ → List ℕ → List MapEntry → Fit
fit_by f P [] = Err BadIndex
fit_by f P (m ∷ ms) = fit_entry f P m

-- map number m
unfoldable pub fit_at : List ℕ → List ℕ → List ℕ → Psbt → ℕ → Fit
fit_at f P M s m = pick (ltb m (maps_reported s)) (fit_by f P (drop m (map_entries M))) (Err OutOfRange)

-- input number i
unfoldable pub fit_input : List ℕ → List ℕ → List ℕ → Psbt → ℕ → Fit
fit_input f P M s i = pick (ltb i s.inputs) (fit_at f P M s (1 + i)) (Err OutOfRange)

-- output number i
unfoldable pub fit_output : List ℕ → List ℕ → List ℕ → Psbt → ℕ → Fit
fit_output f P M s i = pick (ltb i s.outputs) (fit_at f P M s (1 + (s.inputs + i))) (Err OutOfRange)

-- the pairs that a map's entry names are in the table
pub record Within (P : List ℕ) (r : Fit) : Type 0 where
  pub inside : (m : MapEntry) → r ≡ Ok m → m.first + m.count ≤ pair_count P

-- and they are fit
pub record Sound (f P : List ℕ) (r : Fit) : Type 0 where
  pub within : Within P r
  pub fits : (m : MapEntry) → r ≡ Ok m → fit f [] (entries_of P m) ≡ true
