-- What the maps of lent tables are, whatever the tables hold: 14, 24, or fit entries.
use Rattle.std.specs.Prelude.{ℕ, zero, suc, ◌+◌, Bool, true, ◌&&◌, List, [], ◌∷◌, map, length, take, drop, leb, ltb}
use Rattle.format.specs.Tests.{pick}
use Rattle.format.specs.Keys.{below}
use Rattle.format.specs.Content.{Pair}
use Rattle.format.specs.Entries.{pair_entries, map_entries, key_in_def, shown}
use Rattle.format.specs.declared.PsbtError.{PsbtError}
use Rattle.format.specs.declared.PsbtError.TheVariants.{OutOfRange, BadIndex}
use Rattle.format.specs.declared.PairEntry.{PairEntry}
use Rattle.format.specs.declared.MapEntry.{MapEntry}
use Rattle.format.specs.declared.Psbt.{Psbt}

-- an entry's key and value lie in the file, and its key is not empty
unfoldable pub in_file : List ℕ → PairEntry → Bool
in_file f e = leb (e.key + e.klen) (length f) && (leb (e.value + e.vlen) (length f) && ltb 0 e.klen)

-- entries behind the key `last`: each in the file, keys strictly rising
unfoldable pub fit : List ℕ → List ℕ → List PairEntry → Bool
fit f last [] = true
fit f last (e ∷ es) = (in_file f e && below last (key_in_def f e)) && fit f (key_in_def f e) es

-- the asked map: its entries, all fit, or the refusal
pub data Held : Type 0 where
  no : PsbtError → Held
  holds : List PairEntry → Held

-- entries, if they are fit
unfoldable pub fitted : List ℕ → List PairEntry → Held
fitted f es = pick (fit f [] es) (holds es) (no BadIndex)

-- the map of the first map entry, which names pairs that the pair table must have
unfoldable pub held_by_def : List ℕ → List PairEntry → List MapEntry → Held
held_by_def f es [] = no BadIndex
held_by_def f es (m ∷ ms) = pick (leb (m.first + m.count) (length es)) (fitted f (take m.count (drop m.first es))) (no BadIndex)

-- how many maps are reported: one plus both counts
unfoldable pub maps_reported : Psbt → ℕ
maps_reported s = 1 + (s.inputs + s.outputs)

-- map number m of a file with its pair table, its map table and what was reported
unfoldable pub held : List ℕ → List ℕ → List ℕ → Psbt → ℕ → Held
held f P M s m = pick (ltb m (maps_reported s)) (held_by_def f (pair_entries P) (drop m (map_entries M))) (no OutOfRange)

-- input number i, and output number i
unfoldable pub held_input : List ℕ → List ℕ → List ℕ → Psbt → ℕ → Held
held_input f P M s i = pick (ltb i s.inputs) (held f P M s (1 + i)) (no OutOfRange)

-- output number i
unfoldable pub held_output : List ℕ → List ℕ → List ℕ → Psbt → ℕ → Held
held_output f P M s i = pick (ltb i s.outputs) (held f P M s (1 + (s.inputs + i))) (no OutOfRange)

-- what a map shows: its pairs, or the refusal
pub data View : Type 0 where
  hides : PsbtError → View
  shows : List Pair → View

-- what a map's entries show
unfoldable pub view_of : List ℕ → Held → View
view_of f (no e) = hides e
view_of f (holds es) = shows (map (shown f) es)

-- what map number m shows
unfoldable pub view : List ℕ → List ℕ → List ℕ → Psbt → ℕ → View
view f P M s m = view_of f (held f P M s m)

-- what n maps from number i on show, or the refusal of the first that is unfit
pub data Gathered : Type 0 where
  unfit : PsbtError → Gathered
  gathered : List (List Pair) → Gathered

-- a map in front of others
unfoldable pub gather_by : View → Gathered → Gathered
gather_by (hides e) g = unfit e
gather_by (shows ps) (unfit e) = unfit e
gather_by (shows ps) (gathered l) = gathered (ps ∷ l)

-- n maps from number i on
unfoldable pub gather : (ℕ → View) → ℕ → ℕ → Gathered
gather v i zero = gathered []
gather v i (suc n) = gather_by (v i) (gather v (i + 1) n)
