-- Computed examples of lent tables: 14, each cause of 24, and what fit maps hold and show.
use Rattle.std.specs.Prelude.{ℕ, refl, Bool, true, false, List, [], ◌∷◌}
use Rattle.format.specs.Rows.{Row, is, Hold}
use Rattle.format.specs.Unfolds.{lookups}
use Rattle.format.specs.Counting.{counts, entry, bytes_at}
use Rattle.format.specs.Content.{Pair}
use Rattle.format.specs.Tables.{in_file, Held, no, holds, fitted, held, held_input, held_output, View}
use Rattle.format.specs.Tables.{hides, shows, view_of, view, Gathered, unfit, gathered, gather}
use Rattle.format.specs.declared.PsbtError.TheVariants.{OutOfRange, BadIndex}

-- a file of ten bytes, byte number i is i
abbrev ten : List ℕ
ten = bytes_at 0 10

-- entries with their key or their value in the file, or not
unfoldable pub places : List (Row Bool)
places =
    -- the key: up to the last byte, past it, empty
    is (in_file ten (entry 3 1 0 0)) true
    ∷ is (in_file ten (entry 9 1 0 0)) true
    ∷ is (in_file ten (entry 9 2 0 0)) false
    ∷ is (in_file ten (entry 10 1 0 0)) false
    ∷ is (in_file ten (entry 0 10 0 0)) true
    ∷ is (in_file ten (entry 0 11 0 0)) false
    ∷ is (in_file ten (entry 3 0 0 0)) false
    ∷ is (in_file ten (entry 10 0 0 0)) false
    ∷ is (in_file ten (entry 0xffff_ffff 1 0 0)) false
    ∷ is (in_file ten (entry 1 0xffff_ffff 0 0)) false
    -- the value: up to the last byte, past it; empty it may be, up to the end of the file
    ∷ is (in_file ten (entry 3 1 9 1)) true
    ∷ is (in_file ten (entry 3 1 9 2)) false
    ∷ is (in_file ten (entry 3 1 10 0)) true
    ∷ is (in_file ten (entry 3 1 10 1)) false
    ∷ is (in_file ten (entry 3 1 11 0)) false
    ∷ is (in_file ten (entry 3 1 0 10)) true
    ∷ is (in_file ten (entry 3 1 0 11)) false
    ∷ is (in_file ten (entry 3 1 0xffff_ffff 0)) false
    ∷ is (in_file ten (entry 3 1 1 0xffff_ffff)) false
    ∷ []

-- so they lie in the file or leave it
pub entries_in_file : Hold places
unfolding lookups places
entries_in_file = refl

-- the entries of a map
unfoldable pub fits : List (Row Held)
fits =
    -- no pair; keys that rise, a prefix first
    is (fitted ten []) (holds [])
    ∷ is (fitted ten (entry 3 1 0 0 ∷ entry 5 1 0 0 ∷ entry 7 1 0 0 ∷ [])) (holds (entry 3 1 0 0 ∷ entry 5 1 0 0 ∷ entry 7 1 0 0 ∷ []))
    ∷ is (fitted ten (entry 0 1 0 0 ∷ entry 3 1 0 10 ∷ [])) (holds (entry 0 1 0 0 ∷ entry 3 1 0 10 ∷ []))
    ∷ is (fitted ten (entry 3 1 0 0 ∷ entry 3 2 0 0 ∷ entry 4 1 0 0 ∷ [])) (holds (entry 3 1 0 0 ∷ entry 3 2 0 0 ∷ entry 4 1 0 0 ∷ []))
    -- equal keys, keys that fall, a prefix behind the longer one
    ∷ is (fitted ten (entry 3 1 0 0 ∷ entry 3 1 1 1 ∷ [])) (no BadIndex)
    ∷ is (fitted ten (entry 3 2 0 0 ∷ entry 3 2 0 0 ∷ [])) (no BadIndex)
    ∷ is (fitted ten (entry 5 1 0 0 ∷ entry 3 1 0 0 ∷ [])) (no BadIndex)
    ∷ is (fitted ten (entry 3 2 0 0 ∷ entry 3 1 0 0 ∷ [])) (no BadIndex)
    ∷ is (fitted ten (entry 3 1 0 0 ∷ entry 7 1 0 0 ∷ entry 5 1 0 0 ∷ [])) (no BadIndex)
    ∷ is (fitted ten (entry 3 1 0 0 ∷ entry 5 1 0 0 ∷ entry 3 1 0 0 ∷ [])) (no BadIndex)
    ∷ is (fitted ten (entry 3 1 0 0 ∷ entry 5 1 0 0 ∷ entry 5 1 0 0 ∷ [])) (no BadIndex)
    -- a key outside the file, a value outside, an empty key: first, between, last
    ∷ is (fitted ten (entry 9 2 0 0 ∷ [])) (no BadIndex)
    ∷ is (fitted ten (entry 3 1 9 2 ∷ [])) (no BadIndex)
    ∷ is (fitted ten (entry 3 0 0 0 ∷ [])) (no BadIndex)
    ∷ is (fitted ten (entry 3 1 0 0 ∷ entry 9 2 0 0 ∷ [])) (no BadIndex)
    ∷ is (fitted ten (entry 3 1 0 0 ∷ entry 5 1 0 11 ∷ [])) (no BadIndex)
    ∷ is (fitted ten (entry 3 1 0 0 ∷ entry 5 0 0 0 ∷ [])) (no BadIndex)
    ∷ is (fitted ten (entry 3 1 0 0 ∷ entry 5 1 0 11 ∷ entry 7 1 0 0 ∷ [])) (no BadIndex)
    ∷ []

-- so they are fit or not
pub entries_fit : Hold fits
unfolding lookups fits
entries_fit = refl

-- a pair table of three entries: keys 3, 5 and 7 8
abbrev three : List ℕ
three = 3 ∷ 1 ∷ 0 ∷ 0 ∷ 5 ∷ 1 ∷ 0 ∷ 2 ∷ 7 ∷ 2 ∷ 4 ∷ 1 ∷ []

-- a pair table, a map table, both counts, a map's number
unfoldable pub maps : List (Row Held)
maps =
    -- the maps of an input and of an output beside the global one
    is (held ten three (0 ∷ 1 ∷ 1 ∷ 2 ∷ 3 ∷ 0 ∷ []) (counts 1 1) 0) (holds (entry 3 1 0 0 ∷ []))
    ∷ is (held ten three (0 ∷ 1 ∷ 1 ∷ 2 ∷ 3 ∷ 0 ∷ []) (counts 1 1) 1) (holds (entry 5 1 0 2 ∷ entry 7 2 4 1 ∷ []))
    ∷ is (held ten three (0 ∷ 1 ∷ 1 ∷ 2 ∷ 3 ∷ 0 ∷ []) (counts 1 1) 2) (holds [])
    -- numbers not below one plus both counts: 14, whatever the tables hold
    ∷ is (held ten three (0 ∷ 1 ∷ 1 ∷ 2 ∷ 3 ∷ 0 ∷ []) (counts 1 1) 3) (no OutOfRange)
    ∷ is (held ten three (0 ∷ 1 ∷ 1 ∷ 2 ∷ 3 ∷ 0 ∷ []) (counts 0 0) 0) (holds (entry 3 1 0 0 ∷ []))
    ∷ is (held ten three (0 ∷ 1 ∷ 1 ∷ 2 ∷ 3 ∷ 0 ∷ []) (counts 0 0) 1) (no OutOfRange)
    ∷ is (held ten three (0 ∷ 1 ∷ 1 ∷ 2 ∷ 3 ∷ 0 ∷ []) (counts 0 1) 1) (holds (entry 5 1 0 2 ∷ entry 7 2 4 1 ∷ []))
    ∷ is (held ten three (0 ∷ 1 ∷ 1 ∷ 2 ∷ 3 ∷ 0 ∷ []) (counts 1 0) 1) (holds (entry 5 1 0 2 ∷ entry 7 2 4 1 ∷ []))
    ∷ is (held ten three (0 ∷ 1 ∷ 1 ∷ 2 ∷ 3 ∷ 0 ∷ []) (counts 1 0) 2) (no OutOfRange)
    ∷ is (held ten three (0 ∷ 1 ∷ 1 ∷ 2 ∷ 3 ∷ 0 ∷ []) (counts 0 1) 2) (no OutOfRange)
    ∷ is (held ten [] [] (counts 0 0) 1) (no OutOfRange)
    ∷ is (held ten [] [] (counts 2 3) 6) (no OutOfRange)
    ∷ is (held ten [] (0 ∷ 0 ∷ 0 ∷ 0 ∷ 0 ∷ 0 ∷ 0 ∷ 0 ∷ 0 ∷ 0 ∷ 0 ∷ 0 ∷ 0 ∷ 0 ∷ []) (counts 2 3) 5) (holds [])
    ∷ is (held ten [] (0 ∷ 0 ∷ 0 ∷ 0 ∷ 0 ∷ 0 ∷ 0 ∷ 0 ∷ 0 ∷ 0 ∷ 0 ∷ 0 ∷ 0 ∷ 0 ∷ []) (counts 2 3) 6) (no OutOfRange)
    ∷ is (held ten (3 ∷ 0 ∷ 0 ∷ 0 ∷ []) (0 ∷ 1 ∷ 0 ∷ 1 ∷ []) (counts 0 0) 1) (no OutOfRange)
    -- a map entry that its table has not, or not whole: 24
    ∷ is (held ten three [] (counts 0 0) 0) (no BadIndex)
    ∷ is (held ten three (0 ∷ []) (counts 0 0) 0) (no BadIndex)
    ∷ is (held ten three (0 ∷ 1 ∷ []) (counts 1 0) 1) (no BadIndex)
    ∷ is (held ten three (0 ∷ 1 ∷ 1 ∷ []) (counts 1 0) 1) (no BadIndex)
    ∷ is (held ten three (0 ∷ 1 ∷ 1 ∷ 2 ∷ []) (counts 1 0) 1) (holds (entry 5 1 0 2 ∷ entry 7 2 4 1 ∷ []))
    ∷ is (held ten three (0 ∷ 1 ∷ 1 ∷ 2 ∷ []) (counts 1 1) 2) (no BadIndex)
    ∷ is (held ten [] [] (counts 0xffff_ffff_ffff_ffff 1) 7) (no BadIndex)
    -- pairs that the pair table has not; a map with no pairs may begin at its end
    ∷ is (held ten three (0 ∷ 3 ∷ []) (counts 0 0) 0) (holds (entry 3 1 0 0 ∷ entry 5 1 0 2 ∷ entry 7 2 4 1 ∷ []))
    ∷ is (held ten three (0 ∷ 4 ∷ []) (counts 0 0) 0) (no BadIndex)
    ∷ is (held ten three (1 ∷ 2 ∷ []) (counts 0 0) 0) (holds (entry 5 1 0 2 ∷ entry 7 2 4 1 ∷ []))
    ∷ is (held ten three (1 ∷ 3 ∷ []) (counts 0 0) 0) (no BadIndex)
    ∷ is (held ten three (2 ∷ 1 ∷ []) (counts 0 0) 0) (holds (entry 7 2 4 1 ∷ []))
    ∷ is (held ten three (3 ∷ 0 ∷ []) (counts 0 0) 0) (holds [])
    ∷ is (held ten three (3 ∷ 1 ∷ []) (counts 0 0) 0) (no BadIndex)
    ∷ is (held ten three (4 ∷ 0 ∷ []) (counts 0 0) 0) (no BadIndex)
    ∷ is (held ten three (0 ∷ 0 ∷ []) (counts 0 0) 0) (holds [])
    ∷ is (held ten [] (0 ∷ 0 ∷ []) (counts 0 0) 0) (holds [])
    ∷ is (held ten [] (0 ∷ 1 ∷ []) (counts 0 0) 0) (no BadIndex)
    ∷ is (held ten [] (1 ∷ 0 ∷ []) (counts 0 0) 0) (no BadIndex)
    ∷ is (held ten three (0xffff_ffff ∷ 0 ∷ []) (counts 0 0) 0) (no BadIndex)
    ∷ is (held ten three (0 ∷ 0xffff_ffff ∷ []) (counts 0 0) 0) (no BadIndex)
    -- words left over in the pair table are no pair
    ∷ is (held ten (7 ∷ 1 ∷ 0 ∷ []) (0 ∷ 1 ∷ []) (counts 0 0) 0) (no BadIndex)
    ∷ is (held ten (7 ∷ 1 ∷ 0 ∷ []) (0 ∷ 0 ∷ []) (counts 0 0) 0) (holds [])
    ∷ is (held ten (7 ∷ 1 ∷ 0 ∷ 0 ∷ 8 ∷ 1 ∷ 0 ∷ []) (0 ∷ 1 ∷ []) (counts 0 0) 0) (holds (entry 7 1 0 0 ∷ []))
    ∷ is (held ten (7 ∷ 1 ∷ 0 ∷ 0 ∷ 8 ∷ 1 ∷ 0 ∷ []) (0 ∷ 2 ∷ []) (counts 0 0) 0) (no BadIndex)
    ∷ is (held ten (7 ∷ 1 ∷ 0 ∷ 0 ∷ 8 ∷ 1 ∷ 0 ∷ []) (1 ∷ 1 ∷ []) (counts 0 0) 0) (no BadIndex)
    -- only the asked map has to be fit, and its first key is behind none
    ∷ is (held ten (3 ∷ 0 ∷ 0 ∷ 0 ∷ 5 ∷ 1 ∷ 0 ∷ 2 ∷ []) (0 ∷ 1 ∷ 1 ∷ 1 ∷ []) (counts 1 0) 0) (no BadIndex)
    ∷ is (held ten (3 ∷ 0 ∷ 0 ∷ 0 ∷ 5 ∷ 1 ∷ 0 ∷ 2 ∷ []) (0 ∷ 1 ∷ 1 ∷ 1 ∷ []) (counts 1 0) 1) (holds (entry 5 1 0 2 ∷ []))
    ∷ is (held ten (7 ∷ 2 ∷ 4 ∷ 1 ∷ 5 ∷ 1 ∷ 0 ∷ 2 ∷ []) (0 ∷ 1 ∷ 1 ∷ 1 ∷ []) (counts 1 0) 0) (holds (entry 7 2 4 1 ∷ []))
    ∷ is (held ten (7 ∷ 2 ∷ 4 ∷ 1 ∷ 5 ∷ 1 ∷ 0 ∷ 2 ∷ []) (0 ∷ 1 ∷ 1 ∷ 1 ∷ []) (counts 1 0) 1) (holds (entry 5 1 0 2 ∷ []))
    ∷ is (held ten (7 ∷ 2 ∷ 4 ∷ 1 ∷ 5 ∷ 1 ∷ 0 ∷ 2 ∷ []) (0 ∷ 2 ∷ []) (counts 0 0) 0) (no BadIndex)
    ∷ []

-- so maps are held
pub maps_held : Hold maps
unfolding lookups maps
maps_held = refl

-- inputs and outputs by their own numbers
unfoldable pub by_number : List (Row Held)
by_number =
    -- two inputs and two outputs: maps 1 and 2, 3 and 4
    is (held_input ten three (0 ∷ 0 ∷ 0 ∷ 1 ∷ 1 ∷ 1 ∷ 2 ∷ 1 ∷ 0 ∷ 3 ∷ []) (counts 2 2) 0) (holds (entry 3 1 0 0 ∷ []))
    ∷ is (held_input ten three (0 ∷ 0 ∷ 0 ∷ 1 ∷ 1 ∷ 1 ∷ 2 ∷ 1 ∷ 0 ∷ 3 ∷ []) (counts 2 2) 1) (holds (entry 5 1 0 2 ∷ []))
    ∷ is (held_input ten three (0 ∷ 0 ∷ 0 ∷ 1 ∷ 1 ∷ 1 ∷ 2 ∷ 1 ∷ 0 ∷ 3 ∷ []) (counts 2 2) 2) (no OutOfRange)
    ∷ is (held_output ten three (0 ∷ 0 ∷ 0 ∷ 1 ∷ 1 ∷ 1 ∷ 2 ∷ 1 ∷ 0 ∷ 3 ∷ []) (counts 2 2) 0) (holds (entry 7 2 4 1 ∷ []))
    ∷ is (held_output ten three (0 ∷ 0 ∷ 0 ∷ 1 ∷ 1 ∷ 1 ∷ 2 ∷ 1 ∷ 0 ∷ 3 ∷ []) (counts 2 2) 1) (holds (entry 3 1 0 0 ∷ entry 5 1 0 2 ∷ entry 7 2 4 1 ∷ []))
    ∷ is (held_output ten three (0 ∷ 0 ∷ 0 ∷ 1 ∷ 1 ∷ 1 ∷ 2 ∷ 1 ∷ 0 ∷ 3 ∷ []) (counts 2 2) 2) (no OutOfRange)
    -- no input, no output
    ∷ is (held_input ten three (0 ∷ 0 ∷ 0 ∷ 1 ∷ 1 ∷ 1 ∷ 2 ∷ 1 ∷ 0 ∷ 3 ∷ []) (counts 0 2) 0) (no OutOfRange)
    ∷ is (held_output ten three (0 ∷ 0 ∷ 0 ∷ 1 ∷ 1 ∷ 1 ∷ 2 ∷ 1 ∷ 0 ∷ 3 ∷ []) (counts 0 2) 0) (holds (entry 3 1 0 0 ∷ []))
    ∷ is (held_output ten three (0 ∷ 0 ∷ 0 ∷ 1 ∷ 1 ∷ 1 ∷ 2 ∷ 1 ∷ 0 ∷ 3 ∷ []) (counts 0 2) 1) (holds (entry 5 1 0 2 ∷ []))
    ∷ is (held_output ten three (0 ∷ 0 ∷ 0 ∷ 1 ∷ 1 ∷ 1 ∷ 2 ∷ 1 ∷ 0 ∷ 3 ∷ []) (counts 2 0) 0) (no OutOfRange)
    ∷ is (held_input ten three (0 ∷ 0 ∷ 0 ∷ 1 ∷ 1 ∷ 1 ∷ 2 ∷ 1 ∷ 0 ∷ 3 ∷ []) (counts 2 0) 1) (holds (entry 5 1 0 2 ∷ []))
    ∷ is (held_input ten three (0 ∷ 0 ∷ 0 ∷ 1 ∷ 1 ∷ 1 ∷ 2 ∷ 1 ∷ 0 ∷ 3 ∷ []) (counts 0 0) 0) (no OutOfRange)
    ∷ is (held_output ten three (0 ∷ 0 ∷ 0 ∷ 1 ∷ 1 ∷ 1 ∷ 2 ∷ 1 ∷ 0 ∷ 3 ∷ []) (counts 0 0) 0) (no OutOfRange)
    -- 14 before 24
    ∷ is (held_input ten three [] (counts 1 1) 0) (no BadIndex)
    ∷ is (held_input ten three [] (counts 1 1) 1) (no OutOfRange)
    ∷ is (held_output ten three [] (counts 1 1) 0) (no BadIndex)
    ∷ is (held_output ten three [] (counts 1 1) 1) (no OutOfRange)
    ∷ is (held_input ten three (0 ∷ 0 ∷ 3 ∷ 1 ∷ []) (counts 1 0) 0) (no BadIndex)
    ∷ is (held_output ten three (0 ∷ 0 ∷ 3 ∷ 1 ∷ []) (counts 0 1) 0) (no BadIndex)
    ∷ []

-- so they are held
pub inputs_and_outputs_held : Hold by_number
unfolding lookups by_number
inputs_and_outputs_held = refl

-- a pair that an entry shows
abbrev pair : List ℕ → List ℕ → Pair
pair k v = record { klen = []; key = k; vlen = []; value = v }

-- what maps show
unfoldable pub views : List (Row View)
views =
    is (view_of ten (no BadIndex)) (hides BadIndex)
    ∷ is (view_of ten (holds [])) (shows [])
    ∷ is (view ten three (0 ∷ 1 ∷ 1 ∷ 2 ∷ []) (counts 1 0) 0) (shows (pair (3 ∷ []) [] ∷ []))
    ∷ is (view ten three (0 ∷ 1 ∷ 1 ∷ 2 ∷ []) (counts 1 0) 1) (shows (pair (5 ∷ []) (0 ∷ 1 ∷ []) ∷ pair (7 ∷ 8 ∷ []) (4 ∷ []) ∷ []))
    ∷ is (view ten three (0 ∷ 1 ∷ 1 ∷ 2 ∷ []) (counts 1 0) 2) (hides OutOfRange)
    ∷ is (view ten three (0 ∷ 1 ∷ 1 ∷ 3 ∷ []) (counts 1 0) 1) (hides BadIndex)
    ∷ []

-- so they show their pairs
pub maps_show : Hold views
unfolding lookups views
maps_show = refl

-- n maps from number i on; the first that is unfit decides
unfoldable pub gathers : List (Row Gathered)
gathers =
    is (gather (view ten three (0 ∷ 1 ∷ 1 ∷ 2 ∷ []) (counts 1 0)) 0 0) (gathered [])
    ∷ is (gather (view ten three (0 ∷ 1 ∷ 1 ∷ 2 ∷ []) (counts 1 0)) 0 2)
    (gathered ((pair (3 ∷ []) [] ∷ []) ∷ (pair (5 ∷ []) (0 ∷ 1 ∷ []) ∷ pair (7 ∷ 8 ∷ []) (4 ∷ []) ∷ []) ∷ []))
    ∷ is (gather (view ten three (0 ∷ 1 ∷ 1 ∷ 2 ∷ []) (counts 1 0)) 1 1) (gathered ((pair (5 ∷ []) (0 ∷ 1 ∷ []) ∷ pair (7 ∷ 8 ∷ []) (4 ∷ []) ∷ []) ∷ []))
    ∷ is (gather (view ten three (0 ∷ 1 ∷ 3 ∷ 0 ∷ []) (counts 1 0)) 0 2) (gathered ((pair (3 ∷ []) [] ∷ []) ∷ [] ∷ []))
    ∷ is (gather (view ten three (0 ∷ 1 ∷ 1 ∷ 2 ∷ []) (counts 1 0)) 0 3) (unfit OutOfRange)
    ∷ is (gather (view ten three (0 ∷ 1 ∷ 1 ∷ 3 ∷ []) (counts 1 0)) 0 2) (unfit BadIndex)
    ∷ is (gather (view ten three (0 ∷ 4 ∷ 1 ∷ 2 ∷ []) (counts 1 0)) 0 2) (unfit BadIndex)
    ∷ is (gather (view ten three (0 ∷ 4 ∷ 1 ∷ 2 ∷ []) (counts 1 0)) 1 2) (unfit OutOfRange)
    ∷ is (gather (view ten three (0 ∷ 1 ∷ 1 ∷ 3 ∷ []) (counts 1 0)) 1 2) (unfit BadIndex)
    ∷ []

-- so they are gathered
pub maps_gathered : Hold gathers
unfolding lookups gathers
maps_gathered = refl
