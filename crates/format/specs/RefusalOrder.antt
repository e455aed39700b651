-- Which refusal comes first, computed: each file read into tables of so many words.
use Rattle.std.specs.Prelude.{ℕ, refl, List, [], ◌∷◌, ◌++◌, replicate}
use Rattle.format.specs.Rows.{Row, is, Hold}
use Rattle.format.specs.Content.{magic}
use Rattle.format.specs.Parse.{parsed}
use Rattle.format.specs.Told.{Told, none, nat, ToldParse, told_with, told_parse}
use Rattle.format.specs.ExampleFiles.{tx_version_def, input_count, output_count, modifiable_byte, version, end, script, code, label, greatest_count, globals}
use Rattle.format.specs.Computed.{computes, refused_with, accepted_with}

-- what is told, without the tables
unfoldable pub answer_of : ToldParse → Told
answer_of (told_with t P M) = t

-- what is told of a file that is read into tables of so many words
unfoldable pub with_room : ℕ → ℕ → List ℕ → Told
unfolding computes told_parse answer_of
with_room p m f = answer_of (told_parse (parsed f (replicate p 9) (replicate m 9)))

-- a file, the words of the pair table and of the map table, and what is told
abbrev case : List ℕ → ℕ → ℕ → Told → Row Told
case f p m t = is (with_room p m f) t

-- which refusal comes first, each with a smallest file; a room of one entry is 4 words of pairs or 2 of maps
unfoldable pub orders : List (Row Told)
orders =
    -- no map entry is free: before the map's first byte, also where there is none; a part of an entry is no room
    case magic 0 0 (refused_with 23 0 0)
    ∷ case magic 0 1 (refused_with 23 0 0)
    ∷ case magic 0 2 (refused_with 2 0 0)
    -- the order of keys before the value's length: lower, and equal
    ∷ case (magic ++ (input_count 0 ++ (1 ∷ 0x02 ∷ []))) 8 2 (refused_with 6 1 0)
    ∷ case (magic ++ (input_count 0 ++ (1 ∷ 0x04 ∷ []))) 8 2 (refused_with 5 1 0)
    -- the key's bytes before the order of keys
    ∷ case (magic ++ (input_count 0 ++ (2 ∷ 0x02 ∷ []))) 8 2 (refused_with 2 1 0)
    -- the value's bytes before the field rule
    ∷ case (magic ++ (1 ∷ 0x02 ∷ 5 ∷ 0 ∷ 0 ∷ 0 ∷ 0 ∷ [])) 8 2 (refused_with 2 0 0)
    -- sized types whatever the key data, others only without
    ∷ case (magic ++ (2 ∷ 0x07 ∷ 0 ∷ 0 ∷ [])) 8 2 (refused_with 7 0 0)
    ∷ case (magic ++ (2 ∷ 0x02 ∷ 0 ∷ 0 ∷ end)) 8 2 (refused_with 8 1 1)
    -- the field rule before the pair's room
    ∷ case (magic ++ (1 ∷ 0x02 ∷ 0 ∷ [])) 0 2 (refused_with 7 0 0)
    ∷ case (magic ++ tx_version_def) 0 2 (refused_with 22 0 0)
    ∷ case (magic ++ tx_version_def) 3 2 (refused_with 22 0 0)
    ∷ case (magic ++ (tx_version_def ++ input_count 0)) 7 2 (refused_with 22 1 0)
    -- global 00 at its pair, with key data kept
    ∷ case (magic ++ (1 ∷ 0x00 ∷ 0 ∷ [])) 0 2 (refused_with 13 0 0)
    ∷ case (magic ++ (2 ∷ 0x00 ∷ 0 ∷ 0 ∷ end)) 4 2 (refused_with 8 1 1)
    -- a count's leftover bytes before its failed read
    ∷ case (magic ++ (1 ∷ 0x04 ∷ 1 ∷ 0xfd ∷ [])) 4 2 (refused_with 2 0 0)
    ∷ case (magic ++ (1 ∷ 0x04 ∷ 2 ∷ 0xfd ∷ 1 ∷ [])) 4 2 (refused_with 3 0 0)
    ∷ case (magic ++ (1 ∷ 0x05 ∷ 4 ∷ 0xfe ∷ 0 ∷ 0 ∷ 0 ∷ [])) 4 2 (refused_with 3 0 0)
    -- missing counts before the version, both after the map's end
    ∷ case (magic ++ (version 3 ++ end)) 4 2 (refused_with 8 1 1)
    ∷ case (magic ++ (tx_version_def ++ (input_count 0 ++ (output_count 0 ++ (version 3 ++ end))))) 16 2 (refused_with 13 4 1)
    -- a map's last key is not the next map's
    ∷ case (globals 1 0 [] [] ++ (1 ∷ 0x00 ∷ 0 ∷ end)) 20 4 (accepted_with none none 1 0 5 2)
    -- room for the next map before its first byte
    ∷ case (globals 1 0 [] []) 16 2 (refused_with 23 4 1)
    ∷ case (globals 1 0 [] []) 16 4 (refused_with 2 4 1)
    ∷ case (magic ++ (tx_version_def ++ (greatest_count ++ (output_count 0 ++ (version 2 ++ end))))) 16 2 (refused_with 23 4 1)
    ∷ case (magic ++ (tx_version_def ++ (greatest_count ++ (output_count 0 ++ (version 2 ++ end))))) 16 4 (refused_with 2 4 1)
    -- bytes left over before the output rules
    ∷ case (globals 0 1 [] [] ++ (end ++ end)) 16 4 (refused_with 2 4 2)
    ∷ case (globals 0 1 [] [] ++ end) 16 4 (refused_with 17 4 2)
    -- output rules: script or code, not both while a low flag is set, a label with a code
    ∷ case (globals 0 1 [] (modifiable_byte 2) ++ (script ++ (code ++ end))) 28 4 (refused_with 18 7 2)
    ∷ case (globals 0 1 [] (modifiable_byte 4) ++ (script ++ (code ++ end))) 28 4 (accepted_with none (nat 4) 0 1 7 2)
    ∷ case (globals 0 1 [] [] ++ (script ++ (label ++ end))) 24 4 (refused_with 18 6 2)
    ∷ case (globals 0 1 [] [] ++ (label ++ end)) 24 4 (refused_with 17 5 2)
    ∷ case (globals 0 2 [] (modifiable_byte 1) ++ (end ++ (script ++ (code ++ end)))) 28 6 (refused_with 17 7 3)
    ∷ []

-- each case has its answer
pub refusals_in_order : Hold orders
unfolding with_room orders
refusals_in_order = refl
