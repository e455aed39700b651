-- What a reading has told where it stops: the pairs of the global map, and how many pairs passed in the map being read.
use Rattle.std.specs.Prelude.{ℕ, suc, List, [], ◌∷◌}
use Rattle.format.specs.Content.{Pair}
use Rattle.format.specs.Reading.{Reading, done, refusal, begins, pair, ended}

-- the pairs of the global map: those that pass before a map ends
unfoldable pub global_pairs : Reading → List Pair
global_pairs (done c) = []
global_pairs (refusal e) = []
global_pairs (begins r) = global_pairs r
global_pairs (pair p r) = p ∷ global_pairs r
global_pairs (ended a r) = []

-- how many pairs pass in the map being read, where k passed so far: a map's end begins the count anew
unfoldable pub passing : ℕ → Reading → ℕ
passing k (done c) = k
passing k (refusal e) = k
passing k (begins r) = passing k r
passing k (pair p r) = passing (suc k) r
passing k (ended a r) = passing 0 r
