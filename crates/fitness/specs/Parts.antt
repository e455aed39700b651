-- The parts of a file that entries name, and when an entry is fit behind another.
use Rattle.std.specs.Prelude.{ℕ, Bool, ◌&&◌, List, take, drop}
use Rattle.format.specs.Keys.{below}
use Rattle.format.specs.Entries.{key_in_def}
use Rattle.format.specs.Tables.{in_file}
use Rattle.format.specs.declared.PairEntry.{PairEntry}

-- n bytes from a on, or as many as there are
unfoldable pub bytes_at : List ℕ → ℕ → ℕ → List ℕ
bytes_at f a n = take n (drop a f)

-- an entry is fit behind the entry `last`
unfoldable pub fit_one : List ℕ → PairEntry → PairEntry → Bool
fit_one f last e = in_file f e && below (key_in_def f last) (key_in_def f e)
