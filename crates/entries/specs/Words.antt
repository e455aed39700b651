-- The entry that stands at a number of a table, how many there are, and what writing one asks.
use Rattle.std.specs.Prelude.{ℕ, ◌+◌, ◌*◌, ◌^◌, ◌<◌, ◌≤◌, List, length, get_or}
use Rattle.format.specs.Entries.{pair_words, map_words, pair_entries, map_entries}
use Rattle.format.specs.declared.PairEntry.{PairEntry}
use Rattle.format.specs.declared.MapEntry.{MapEntry}

-- how many whole entries a pair table has
unfoldable pub pair_count : List ℕ → ℕ
pair_count t = length (pair_entries t)

-- how many a map table has
unfoldable pub map_count : List ℕ → ℕ
map_count t = length (map_entries t)

-- what stands past the end of a pair table
abbrev pub no_pair : PairEntry
no_pair = record { key = 0; klen = 0; value = 0; vlen = 0 }

-- and past that of a map table
abbrev pub no_map : MapEntry
no_map = record { first = 0; count = 0 }

-- entry number i of a pair table
unfoldable pub pair_at : List ℕ → ℕ → PairEntry
pair_at t i = get_or (pair_entries t) i no_pair

-- entry number i of a map table
unfoldable pub map_at : List ℕ → ℕ → MapEntry
map_at t i = get_or (map_entries t) i no_map

-- the entry of a pair whose words begin at `at`
unfoldable pub pair_from : List ℕ → ℕ → PairEntry
pair_from t at = record { key = get_or t at 0; klen = get_or t (at + 1) 0; value = get_or t (at + 2) 0; vlen = get_or t (at + 3) 0 }

-- the entry of a map whose words begin at `at`
unfoldable pub map_from : List ℕ → ℕ → MapEntry
map_from t at = record { first = get_or t at 0; count = get_or t (at + 1) 0 }

-- room for entry number n of a pair table, and numbers that a word takes
pub record PairFits (t : List ℕ) (n : ℕ) (e : PairEntry) : Type 0 where
  pub room : n * pair_words + pair_words ≤ length t
  pub key< : e.key < 2 ^ 32
  pub klen< : e.klen < 2 ^ 32
  pub value< : e.value < 2 ^ 32
  pub vlen< : e.vlen < 2 ^ 32

-- the same of a map table
pub record MapFits (t : List ℕ) (n : ℕ) (e : MapEntry) : Type 0 where
  pub room : n * map_words + map_words ≤ length t
  pub first< : e.first < 2 ^ 32
  pub count< : e.count < 2 ^ 32
