-- What all reported maps hold, by the tables' entries, where each map is fit.
use Rattle.std.specs.Prelude.{ℕ, zero, suc, ◌+◌, ◌≤◌, ◌<◌, ◌≡◌, true, List, [], ◌∷◌, map, Err}
use Rattle.format.specs.Content.{Pair}
use Rattle.format.specs.Entries.{shown}
use Rattle.format.specs.Tables.{fit, Gathered, unfit, gathered, maps_reported}
use Rattle.format.specs.Locks.{In, in_of}
use Rattle.format.specs.Scripts.{Out, out_of}
use Rattle.format.specs.declared.MapEntry.{MapEntry}
use Rattle.format.specs.declared.Psbt.{Psbt}
use Rattle.format.specs.Answers.{passed, Ruled}
use Rattle.entries.specs.Words.{pair_count, map_count, map_at}
use Rattle.fitness.specs.Fits.{entries_of}

-- whether maps are fit, by what they show
unfoldable pub ruled_by : Gathered → Ruled
ruled_by (unfit e) = Err e
ruled_by (gathered l) = passed

-- a map's pairs are in the table, and fit
pub record Usable (f P : List ℕ) (m : MapEntry) : Type 0 where
  pub within : m.first + m.count ≤ pair_count P
  pub fits : fit f [] (entries_of P m) ≡ true

-- map number m is in its table, and usable
pub record Whole (f P M : List ℕ) (m : ℕ) : Type 0 where
  pub listed : m < map_count M
  pub usable : Usable f P (map_at M m)

-- each reported map is
pub record AllFit (f P M : List ℕ) (s : Psbt) : Type 0 where
  pub all : (m : ℕ) → m < maps_reported s → Whole f P M m

-- the pairs of map number m
unfoldable pub pairs_of : List ℕ → List ℕ → List ℕ → ℕ → List Pair
pairs_of f P M m = map (shown f) (entries_of P (map_at M m))

-- what a transaction takes from input number i
unfoldable pub in_at : List ℕ → List ℕ → List ℕ → ℕ → In
in_at f P M i = in_of (pairs_of f P M (1 + i))

-- what it takes from output number i
unfoldable pub out_at : List ℕ → List ℕ → List ℕ → Psbt → ℕ → Out
out_at f P M s i = out_of (pairs_of f P M (1 + s.inputs + i))

-- what n numbers from i on give
unfoldable pub from : {A : Type 0} → (ℕ → A) → ℕ → ℕ → List A
from g i zero = []
from g i (suc n) = g i ∷ from g (i + 1) n

-- all inputs
unfoldable pub ins_of : List ℕ → List ℕ → List ℕ → Psbt → List In
ins_of f P M s = from (in_at f P M) 0 s.inputs

-- all outputs
unfoldable pub outs_of : List ℕ → List ℕ → List ℕ → Psbt → List Out
outs_of f P M s = from (out_at f P M s) 0 s.outputs
