-- The memory that the programs lend to a parse and to a transaction.
use Rattle.std.specs.Prelude.{ℕ, ◌*◌, List, false, replicate}
use Rattle.format.specs.Entries.{pair_words, map_words}
use Rattle.format.specs.declared.State.{State}
use Rattle.rooms.specs.Limits.{longest, most_pairs, most_maps}

-- lent memory of n numbers, all 0
unfoldable pub zeros : ℕ → List ℕ
zeros n = replicate n 0

-- room for all pairs, by the words of an entry
abbrev pub pair_room : List ℕ
pair_room = zeros (most_pairs * pair_words)

-- room for all maps
abbrev pub map_room : List ℕ
map_room = zeros (most_maps * map_words)

-- room for a transaction as long as the longest file
abbrev pub tx_room : List ℕ
tx_room = zeros longest

-- no scripts set, no transaction written
abbrev pub fresh : State
fresh = record { set = false; written = false }
