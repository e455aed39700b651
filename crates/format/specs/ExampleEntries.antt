-- Computed examples of the layout of both tables: room, entries written, entries read, what an entry names.
use Rattle.std.specs.Prelude.{ℕ, refl, Bool, true, false, List, [], ◌∷◌, replicate}
use Rattle.format.specs.Rows.{Row, is, Hold}
use Rattle.format.specs.Unfolds.{lookups}
use Rattle.format.specs.Counting.{counting, entry, map_entry}
use Rattle.format.specs.Content.{Pair}
use Rattle.format.specs.Entries.{pair_words, map_words, has_room_def, pair_entry_words, map_entry_words, put_pair, put_map}
use Rattle.format.specs.Entries.{pair_entries, map_entries, entry_of, width, key_in_def, value_in_def, shown}
use Rattle.format.specs.declared.PairEntry.{PairEntry}
use Rattle.format.specs.declared.MapEntry.{MapEntry}

-- whether a table of so many words has room for entry number n: whole entries count
unfoldable pub rooms : List (Row Bool)
rooms =
    is (has_room_def pair_words 0 (replicate 0 9)) false
    ∷ is (has_room_def pair_words 0 (replicate 3 9)) false
    ∷ is (has_room_def pair_words 0 (replicate 4 9)) true
    ∷ is (has_room_def pair_words 1 (replicate 7 9)) false
    ∷ is (has_room_def pair_words 1 (replicate 8 9)) true
    ∷ is (has_room_def pair_words 1 (replicate 9 9)) true
    ∷ is (has_room_def pair_words 2 (replicate 11 9)) false
    ∷ is (has_room_def pair_words 2 (replicate 12 9)) true
    ∷ is (has_room_def map_words 0 (replicate 0 9)) false
    ∷ is (has_room_def map_words 0 (replicate 1 9)) false
    ∷ is (has_room_def map_words 0 (replicate 2 9)) true
    ∷ is (has_room_def map_words 1 (replicate 3 9)) false
    ∷ is (has_room_def map_words 1 (replicate 4 9)) true
    ∷ is (has_room_def map_words 3 (replicate 8 9)) true
    ∷ []

-- so room is counted
pub room_in_whole_entries : Hold rooms
unfolding lookups rooms
room_in_whole_entries = refl

-- a pair takes four words: key start, key length, value start, value length; a map two: first pair, number of pairs; the rest stays
unfoldable pub puts : List (Row (List ℕ))
puts =
    is (pair_entry_words (entry 1 2 3 4)) (1 ∷ 2 ∷ 3 ∷ 4 ∷ [])
    ∷ is (map_entry_words (map_entry 1 2)) (1 ∷ 2 ∷ [])
    ∷ is (put_pair (replicate 9 9) 0 (entry 1 2 3 4)) (1 ∷ 2 ∷ 3 ∷ 4 ∷ 9 ∷ 9 ∷ 9 ∷ 9 ∷ 9 ∷ [])
    ∷ is (put_pair (replicate 9 9) 1 (entry 1 2 3 4)) (9 ∷ 9 ∷ 9 ∷ 9 ∷ 1 ∷ 2 ∷ 3 ∷ 4 ∷ 9 ∷ [])
    ∷ is (put_map (replicate 5 9) 0 (map_entry 1 2)) (1 ∷ 2 ∷ 9 ∷ 9 ∷ 9 ∷ [])
    ∷ is (put_map (replicate 5 9) 1 (map_entry 1 2)) (9 ∷ 9 ∷ 1 ∷ 2 ∷ 9 ∷ [])
    ∷ []

-- so they are written
pub entries_written : Hold puts
unfolding lookups puts
entries_written = refl

-- the pairs of a table, none from words left over
unfoldable pub pair_tables : List (Row (List PairEntry))
pair_tables =
    is (pair_entries []) []
    ∷ is (pair_entries (1 ∷ [])) []
    ∷ is (pair_entries (1 ∷ 2 ∷ [])) []
    ∷ is (pair_entries (1 ∷ 2 ∷ 3 ∷ [])) []
    ∷ is (pair_entries (1 ∷ 2 ∷ 3 ∷ 4 ∷ [])) (entry 1 2 3 4 ∷ [])
    ∷ is (pair_entries (1 ∷ 2 ∷ 3 ∷ 4 ∷ 5 ∷ [])) (entry 1 2 3 4 ∷ [])
    ∷ is (pair_entries (1 ∷ 2 ∷ 3 ∷ 4 ∷ 5 ∷ 6 ∷ 7 ∷ [])) (entry 1 2 3 4 ∷ [])
    ∷ is (pair_entries (1 ∷ 2 ∷ 3 ∷ 4 ∷ 5 ∷ 6 ∷ 7 ∷ 8 ∷ [])) (entry 1 2 3 4 ∷ entry 5 6 7 8 ∷ [])
    ∷ is (pair_entries (1 ∷ 2 ∷ 3 ∷ 4 ∷ 5 ∷ 6 ∷ 7 ∷ 8 ∷ 9 ∷ 10 ∷ 11 ∷ [])) (entry 1 2 3 4 ∷ entry 5 6 7 8 ∷ [])
    ∷ []

-- so they are read
pub pair_entries_read : Hold pair_tables
unfolding lookups pair_tables
pair_entries_read = refl

-- the maps of a table, none from a word left over
unfoldable pub map_tables : List (Row (List MapEntry))
map_tables =
    is (map_entries []) []
    ∷ is (map_entries (1 ∷ [])) []
    ∷ is (map_entries (1 ∷ 2 ∷ [])) (map_entry 1 2 ∷ [])
    ∷ is (map_entries (1 ∷ 2 ∷ 3 ∷ [])) (map_entry 1 2 ∷ [])
    ∷ is (map_entries (1 ∷ 2 ∷ 3 ∷ 4 ∷ [])) (map_entry 1 2 ∷ map_entry 3 4 ∷ [])
    ∷ is (map_entries (1 ∷ 2 ∷ 3 ∷ 4 ∷ 5 ∷ [])) (map_entry 1 2 ∷ map_entry 3 4 ∷ [])
    ∷ []

-- so they are read
pub map_entries_read : Hold map_tables
unfolding lookups map_tables
map_entries_read = refl

-- a pair as spelled: 1 byte, a key of 2, 3 bytes, a value of 4
abbrev first : Pair
first = record { klen = 2 ∷ []; key = 7 ∷ 8 ∷ []; vlen = 0xfd ∷ 4 ∷ 0 ∷ []; value = 1 ∷ 2 ∷ 3 ∷ 4 ∷ [] }

-- another: 3 bytes, a key of 1, 1 byte, an empty value
abbrev second : Pair
second = record { klen = 0xfd ∷ 1 ∷ 0 ∷ []; key = 7 ∷ []; vlen = 0 ∷ []; value = [] }

-- their entries where their bytes begin at 10 and at 20
unfoldable pub spelled : List (Row PairEntry)
spelled =
    is (entry_of 10 first) (entry 11 2 16 4)
    ∷ is (entry_of 20 second) (entry 23 1 25 0)
    ∷ []

-- so pairs have entries
pub entries_of_pairs : Hold spelled
unfolding lookups spelled
entries_of_pairs = refl

-- how many bytes they take; what entries name in the counting file
unfoldable pub named : List (Row (List ℕ))
named =
    is (width first ∷ width second ∷ []) (10 ∷ 5 ∷ [])
    ∷ is (key_in_def counting (entry 3 2 7 4)) (3 ∷ 4 ∷ [])
    ∷ is (value_in_def counting (entry 3 2 7 4)) (7 ∷ 8 ∷ 9 ∷ 10 ∷ [])
    ∷ is (key_in_def counting (entry 0 1 9 0)) (0 ∷ [])
    ∷ is (value_in_def counting (entry 0 1 9 0)) []
    ∷ is (key_in_def counting (entry 131 1 0 1)) (131 ∷ [])
    ∷ is (value_in_def counting (entry 131 1 0 1)) (0 ∷ [])
    ∷ []

-- so bytes are named
pub entries_name : Hold named
unfolding lookups named
entries_name = refl

-- the pair that an entry shows, without the spelling of its lengths
unfoldable pub shows : List (Row Pair)
shows = is (shown counting (entry 3 2 7 1)) (record { klen = []; key = 3 ∷ 4 ∷ []; vlen = []; value = 7 ∷ [] }) ∷ []

-- so it is shown
pub entries_show : Hold shows
unfolding lookups shows
entries_show = refl
