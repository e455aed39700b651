-- Computed examples of lookups and listings in a map.
use Rattle.std.specs.Prelude.{ℕ, refl, Bool, true, false, List, [], ◌∷◌, Ok, Err, Some, None}
use Rattle.format.specs.Rows.{Row, is, Hold}
use Rattle.format.specs.Unfolds.{lookups}
use Rattle.format.specs.Counting.{counting, entry, at, number, nothing, refused}
use Rattle.format.specs.Tables.{Held, no, holds}
use Rattle.format.specs.Lookups.{any_length, exactly, key_list, length_fits, of_length_def, asked, look, part, number_at, list, nth, key_part, value_part}
use Rattle.format.specs.Told.{Told, told, nat, told_looked, told_numbered, told_listing, told_nth}
use Rattle.format.specs.declared.PsbtError.TheVariants.{BadValue, OutOfRange, BadIndex}
use Rattle.format.specs.Answers.{part_at}

-- a map of four pairs: keys 2, 4, 4 5 and 7 8, values of 3, 0, 2 and 1 bytes
abbrev four : Held
four = holds (entry 2 1 0 3 ∷ entry 4 1 5 0 ∷ entry 4 2 1 2 ∷ entry 7 2 9 1 ∷ [])

-- the lookup of a type and key data in a map
abbrev looked : Held → ℕ → List ℕ → Told
looked h t d = told_looked (look counting t d h)

-- lookups
unfoldable pub looks : List (Row Told)
looks =
    -- found; an empty value is found too
    is (looked four 0x02 []) (at 0 3)
    ∷ is (looked four 0x04 []) (at 5 0)
    ∷ is (looked four 0x04 (5 ∷ [])) (at 1 2)
    ∷ is (looked four 0x07 (8 ∷ [])) (at 9 1)
    -- absent: other types, more data, less data, other data
    ∷ is (looked four 0x00 []) nothing
    ∷ is (looked four 0x03 []) nothing
    ∷ is (looked four 0x09 []) nothing
    ∷ is (looked four 0x02 (3 ∷ [])) nothing
    ∷ is (looked four 0x04 (5 ∷ 6 ∷ [])) nothing
    ∷ is (looked four 0x04 (6 ∷ [])) nothing
    ∷ is (looked four 0x07 []) nothing
    ∷ is (looked (holds []) 0x02 []) nothing
    -- refused
    ∷ is (looked (no OutOfRange) 0x02 []) (refused 14)
    ∷ is (looked (no BadIndex) 0x02 []) (refused 24)
    ∷ []

-- so keys are looked up
pub keys_looked_up : Hold looks
unfolding lookups looks
keys_looked_up = refl

-- a typed lookup of key 4 5, whose value has 2 bytes, or of another key: whether the asked key's length is right, the value's right length
unfoldable pub askings : List (Row Told)
askings =
    is (told_looked (asked true any_length counting (4 ∷ 5 ∷ []) four)) (at 1 2)
    ∷ is (told_looked (asked true (exactly 2) counting (4 ∷ 5 ∷ []) four)) (at 1 2)
    ∷ is (told_looked (asked true (exactly 3) counting (4 ∷ 5 ∷ []) four)) (refused 7)
    ∷ is (told_looked (asked true key_list counting (4 ∷ 5 ∷ []) four)) (refused 7)
    -- the map's refusal before the asked key's length
    ∷ is (told_looked (asked false any_length counting (4 ∷ 5 ∷ []) (no OutOfRange))) (refused 14)
    ∷ is (told_looked (asked false any_length counting (4 ∷ 5 ∷ []) (no BadIndex))) (refused 24)
    ∷ is (told_looked (asked true (exactly 3) counting (4 ∷ 5 ∷ []) (no BadIndex))) (refused 24)
    -- the asked key's length before absence
    ∷ is (told_looked (asked false any_length counting (4 ∷ 5 ∷ []) four)) (refused 7)
    ∷ is (told_looked (asked false any_length counting (4 ∷ 6 ∷ []) four)) (refused 7)
    ∷ is (told_looked (asked false any_length counting (4 ∷ 6 ∷ []) (holds []))) (refused 7)
    -- absence whatever length would be right
    ∷ is (told_looked (asked true (exactly 3) counting (4 ∷ 6 ∷ []) four)) nothing
    ∷ is (told_looked (asked true key_list counting (4 ∷ 6 ∷ []) four)) nothing
    -- a lookup's own refusal and its absence stay, whatever length would be right
    ∷ is (told_looked (of_length_def (exactly 3) (Err OutOfRange))) (refused 14)
    ∷ is (told_looked (of_length_def (exactly 3) (Ok None))) nothing
    -- no map has an empty key
    ∷ is (told_looked (asked true any_length counting [] four)) nothing
    ∷ is (told_looked (asked true any_length counting [] (holds []))) nothing
    ∷ []

-- so it is asked in order
pub lookups_in_order : Hold askings
unfolding lookups askings
lookups_in_order = refl

-- right lengths: any; one; a list of 33-byte keys that is not empty
unfoldable pub lengths : List (Row Bool)
lengths =
    is (length_fits any_length 0) true
    ∷ is (length_fits any_length 1) true
    ∷ is (length_fits any_length 33) true
    ∷ is (length_fits (exactly 32) 0) false
    ∷ is (length_fits (exactly 32) 31) false
    ∷ is (length_fits (exactly 32) 32) true
    ∷ is (length_fits (exactly 32) 33) false
    ∷ is (length_fits (exactly 32) 64) false
    ∷ is (length_fits (exactly 0) 0) true
    ∷ is (length_fits key_list 0) false
    ∷ is (length_fits key_list 1) false
    ∷ is (length_fits key_list 3) false
    ∷ is (length_fits key_list 11) false
    ∷ is (length_fits key_list 22) false
    ∷ is (length_fits key_list 32) false
    ∷ is (length_fits key_list 33) true
    ∷ is (length_fits key_list 34) false
    ∷ is (length_fits key_list 44) false
    ∷ is (length_fits key_list 65) false
    ∷ is (length_fits key_list 66) true
    ∷ is (length_fits key_list 67) false
    ∷ is (length_fits key_list 99) true
    ∷ is (length_fits key_list 330) true
    ∷ []

-- so lengths are right or wrong
pub lengths_fit : Hold lengths
unfolding lookups lengths
lengths_fit = refl

-- the number that a place spells
unfoldable pub numbers : List (Row Told)
numbers =
    is (told_numbered (number_at counting (Ok (Some (part_at 1 2))))) (number 0x0201)
    ∷ is (told_numbered (number_at counting (Ok (Some (part_at 7 4))))) (number 0x0a09_0807)
    ∷ is (told_numbered (number_at counting (Ok (Some (part_at 0 1))))) (number 0)
    ∷ is (told_numbered (number_at counting (Ok (Some (part_at 5 0))))) (number 0)
    ∷ is (told_numbered (number_at counting (Ok None))) nothing
    ∷ is (told_numbered (number_at counting (Err BadValue))) (refused 7)
    ∷ []

-- so numbers are spelled
pub places_spell : Hold numbers
unfolding lookups numbers
places_spell = refl

-- the part of the file that is handed back: empty for absence and refusal
unfoldable pub parts : List (Row (List ℕ))
parts =
    is (part counting (Ok (Some (part_at 1 2)))) (1 ∷ 2 ∷ [])
    ∷ is (part counting (Ok (Some (part_at 5 0)))) []
    ∷ is (part counting (Ok (Some (part_at 130 2)))) (130 ∷ 131 ∷ [])
    ∷ is (part counting (look counting 0x04 (5 ∷ []) four)) (1 ∷ 2 ∷ [])
    ∷ is (part counting (Ok None)) []
    ∷ is (part counting (Err BadValue)) []
    -- the key and the value of a pair
    ∷ is (key_part counting (nth 3 four)) (7 ∷ 8 ∷ [])
    ∷ is (value_part counting (nth 3 four)) (9 ∷ [])
    ∷ is (key_part counting (nth 0 four)) (2 ∷ [])
    ∷ is (value_part counting (nth 0 four)) (0 ∷ 1 ∷ 2 ∷ [])
    ∷ is (value_part counting (nth 1 four)) []
    ∷ is (key_part counting (nth 4 four)) []
    ∷ is (value_part counting (nth 4 four)) []
    ∷ []

-- so parts are handed back
pub parts_handed_back : Hold parts
unfolding lookups parts
parts_handed_back = refl

-- listings by type: the first pair's number and a count; of none the place where the type would stand
unfoldable pub listings : List (Row Told)
listings =
    -- pairs of the type
    is (told_listing (list counting 0x02 four)) (at 0 1)
    ∷ is (told_listing (list counting 0x04 four)) (at 1 2)
    ∷ is (told_listing (list counting 0x07 four)) (at 3 1)
    -- none: in front, between, at the end
    ∷ is (told_listing (list counting 0x00 four)) (at 0 0)
    ∷ is (told_listing (list counting 0x01 four)) (at 0 0)
    ∷ is (told_listing (list counting 0x03 four)) (at 1 0)
    ∷ is (told_listing (list counting 0x05 four)) (at 3 0)
    ∷ is (told_listing (list counting 0x06 four)) (at 3 0)
    ∷ is (told_listing (list counting 0x08 four)) (at 4 0)
    ∷ is (told_listing (list counting 0xff four)) (at 4 0)
    -- keys with data alone, and three of a type
    ∷ is (told_listing (list counting 0x08 (holds (entry 2 1 0 0 ∷ entry 8 2 0 0 ∷ entry 9 1 0 0 ∷ [])))) (at 1 1)
    ∷ is (told_listing (list counting 0x08 (holds (entry 2 1 0 0 ∷ entry 8 1 0 0 ∷ entry 8 2 0 0 ∷ entry 8 3 0 0 ∷ [])))) (at 1 3)
    -- a map with no pairs, and no map
    ∷ is (told_listing (list counting 0x02 (holds []))) (at 0 0)
    ∷ is (told_listing (list counting 0x02 (no OutOfRange))) (refused 14)
    ∷ is (told_listing (list counting 0x02 (no BadIndex))) (refused 24)
    ∷ []

-- so pairs are listed
pub pairs_listed : Hold listings
unfolding lookups listings
pairs_listed = refl

-- a pair by its number: key start, key length, value start, value length
unfoldable pub nths : List (Row Told)
nths =
    is (told_nth (nth 0 four)) (told 0 (nat 2 ∷ nat 1 ∷ nat 0 ∷ nat 3 ∷ []))
    ∷ is (told_nth (nth 2 four)) (told 0 (nat 4 ∷ nat 2 ∷ nat 1 ∷ nat 2 ∷ []))
    ∷ is (told_nth (nth 3 four)) (told 0 (nat 7 ∷ nat 2 ∷ nat 9 ∷ nat 1 ∷ []))
    ∷ is (told_nth (nth 4 four)) (refused 14)
    ∷ is (told_nth (nth 5 four)) (refused 14)
    ∷ is (told_nth (nth 0 (holds []))) (refused 14)
    ∷ is (told_nth (nth 0 (no OutOfRange))) (refused 14)
    ∷ is (told_nth (nth 9 (no BadIndex))) (refused 24)
    ∷ []

-- so pairs are numbered
pub pairs_numbered : Hold nths
unfolding lookups nths
pairs_numbered = refl
