-- Computed examples of what is asked of whole maps: the global map, what is reported of it, the outputs; and of a content's bytes.
use Rattle.std.specs.Prelude.{ℕ, refl, Bool, true, false, List, [], ◌∷◌, negsuc, Err}
use Rattle.format.specs.Rows.{Row, is, Hold}
use Rattle.format.specs.Unfolds.{lookups}
use Rattle.format.specs.Content.{Pair, Map, Content, maps_of, bytes, Found, absent, found, find, field}
use Rattle.format.specs.Content.{psbt_of, global_rule, modifiable, output_by, output_rule, outputs_rule}
use Rattle.format.specs.Told.{Value, none, int, Told, told, nat, told_parsed}
use Rattle.format.specs.declared.PsbtError.TheVariants.{MissingCounts, NotAllowed, MissingOutputScript, InvalidSilentPayment}
use Rattle.format.specs.Answers.{passed, Ruled}
use Rattle.format.specs.declared.Parsed.TheVariants.{Accepted}

-- a pair of a type without key data
abbrev bare : ℕ → List ℕ → Pair
bare t v = record { klen = 1 ∷ []; key = t ∷ []; vlen = []; value = v }

-- a pair of a type with a byte of key data
abbrev keyed : ℕ → List ℕ → Pair
keyed t v = record { klen = 2 ∷ []; key = t ∷ 0 ∷ []; vlen = []; value = v }

-- version 2
abbrev two : List ℕ
two = 0x02 ∷ 0x00 ∷ 0x00 ∷ 0x00 ∷ []

-- a key in a map: the value of the pair that has it, be it empty
unfoldable pub finds : List (Row Found)
finds =
    is (find (0x04 ∷ []) []) absent
    ∷ is (field 0x04 (bare 0x04 (7 ∷ []) ∷ [])) (found (7 ∷ []))
    ∷ is (field 0x04 (bare 0x04 [] ∷ [])) (found [])
    ∷ is (field 0x04 (bare 0x03 (7 ∷ []) ∷ keyed 0x04 (8 ∷ []) ∷ bare 0x05 (9 ∷ []) ∷ [])) absent
    ∷ is (find (0x04 ∷ 0 ∷ []) (bare 0x04 (7 ∷ []) ∷ keyed 0x04 (8 ∷ []) ∷ [])) (found (8 ∷ []))
    ∷ is (field 0x05 (bare 0x04 (7 ∷ []) ∷ bare 0x05 (8 ∷ []) ∷ bare 0x06 (9 ∷ []) ∷ [])) (found (8 ∷ []))
    ∷ []

-- so keys are found
pub keys_found : Hold finds
unfolding lookups finds
keys_found = refl

-- after the global map
unfoldable pub globals : List (Row Ruled)
globals =
    -- all four, version 2
    is (global_rule (bare 0x02 two ∷ bare 0x04 (0x00 ∷ []) ∷ bare 0x05 (0x00 ∷ []) ∷ bare 0xfb two ∷ [])) passed
    -- one of them missing
    ∷ is (global_rule (bare 0x04 (0x00 ∷ []) ∷ bare 0x05 (0x00 ∷ []) ∷ bare 0xfb two ∷ [])) (Err MissingCounts)
    ∷ is (global_rule (bare 0x02 two ∷ bare 0x05 (0x00 ∷ []) ∷ bare 0xfb two ∷ [])) (Err MissingCounts)
    ∷ is (global_rule (bare 0x02 two ∷ bare 0x04 (0x00 ∷ []) ∷ bare 0xfb two ∷ [])) (Err MissingCounts)
    ∷ is (global_rule (bare 0x02 two ∷ bare 0x04 (0x00 ∷ []) ∷ bare 0x05 (0x00 ∷ []) ∷ [])) (Err MissingCounts)
    -- one of them with key data only
    ∷ is (global_rule (keyed 0x02 two ∷ bare 0x04 (0x00 ∷ []) ∷ bare 0x05 (0x00 ∷ []) ∷ bare 0xfb two ∷ [])) (Err MissingCounts)
    ∷ is (global_rule (bare 0x02 two ∷ keyed 0x04 (0x00 ∷ []) ∷ bare 0x05 (0x00 ∷ []) ∷ bare 0xfb two ∷ [])) (Err MissingCounts)
    ∷ is (global_rule (bare 0x02 two ∷ bare 0x04 (0x00 ∷ []) ∷ keyed 0x05 (0x00 ∷ []) ∷ bare 0xfb two ∷ [])) (Err MissingCounts)
    ∷ is (global_rule (bare 0x02 two ∷ bare 0x04 (0x00 ∷ []) ∷ bare 0x05 (0x00 ∷ []) ∷ keyed 0xfb two ∷ [])) (Err MissingCounts)
    -- none, and another type alone
    ∷ is (global_rule []) (Err MissingCounts)
    ∷ is (global_rule (bare 0x03 (0x00 ∷ []) ∷ [])) (Err MissingCounts)
    -- another version
    ∷ is (global_rule (bare 0x02 two ∷ bare 0x04 (0x00 ∷ []) ∷ bare 0x05 (0x00 ∷ []) ∷ bare 0xfb (0x00 ∷ 0x00 ∷ 0x00 ∷ 0x00 ∷ []) ∷ [])) (Err NotAllowed)
    ∷ is (global_rule (bare 0x02 two ∷ bare 0x04 (0x00 ∷ []) ∷ bare 0x05 (0x00 ∷ []) ∷ bare 0xfb (0x01 ∷ 0x00 ∷ 0x00 ∷ 0x00 ∷ []) ∷ [])) (Err NotAllowed)
    ∷ is (global_rule (bare 0x02 two ∷ bare 0x04 (0x00 ∷ []) ∷ bare 0x05 (0x00 ∷ []) ∷ bare 0xfb (0x03 ∷ 0x00 ∷ 0x00 ∷ 0x00 ∷ []) ∷ [])) (Err NotAllowed)
    ∷ is (global_rule (bare 0x02 two ∷ bare 0x04 (0x00 ∷ []) ∷ bare 0x05 (0x00 ∷ []) ∷ bare 0xfb (0x02 ∷ 0x01 ∷ 0x00 ∷ 0x00 ∷ []) ∷ [])) (Err NotAllowed)
    ∷ is (global_rule (bare 0x02 two ∷ bare 0x04 (0x00 ∷ []) ∷ bare 0x05 (0x00 ∷ []) ∷ bare 0xfb (0x00 ∷ 0x00 ∷ 0x00 ∷ 0x02 ∷ []) ∷ [])) (Err NotAllowed)
    ∷ is (global_rule (bare 0x02 two ∷ bare 0x04 (0x00 ∷ []) ∷ bare 0x05 (0x00 ∷ []) ∷ bare 0xfb (0x02 ∷ 0x00 ∷ 0x00 ∷ 0x80 ∷ []) ∷ [])) (Err NotAllowed)
    ∷ is (global_rule (bare 0x02 two ∷ bare 0x04 (0x00 ∷ []) ∷ bare 0x05 (0x00 ∷ []) ∷ bare 0xfb (0xff ∷ 0xff ∷ 0xff ∷ 0xff ∷ []) ∷ [])) (Err NotAllowed)
    -- missing ones before the version
    ∷ is (global_rule (bare 0x04 (0x00 ∷ []) ∷ bare 0x05 (0x00 ∷ []) ∷ bare 0xfb (0x03 ∷ 0x00 ∷ 0x00 ∷ 0x00 ∷ []) ∷ [])) (Err MissingCounts)
    ∷ is (global_rule (bare 0x02 two ∷ bare 0x05 (0x00 ∷ []) ∷ bare 0xfb (0x03 ∷ 0x00 ∷ 0x00 ∷ 0x00 ∷ []) ∷ [])) (Err MissingCounts)
    ∷ is (global_rule (bare 0x02 two ∷ bare 0x04 (0x00 ∷ []) ∷ bare 0xfb (0x03 ∷ 0x00 ∷ 0x00 ∷ 0x00 ∷ []) ∷ [])) (Err MissingCounts)
    ∷ []

-- so it is ruled
pub globals_ruled : Hold globals
unfolding lookups globals
globals_ruled = refl

-- what is told of a global map: version with its sign, fallback, modifiable byte, both counts
abbrev report : List Pair → Told
report g = told_parsed (Accepted (psbt_of g) 0 0)

-- a report of these
abbrev reports : Value → Value → Value → ℕ → ℕ → Told
reports v f m i o = told 0 (v ∷ f ∷ m ∷ nat i ∷ nat o ∷ nat 0 ∷ nat 0 ∷ [])

-- global maps; absent is not 0, and a count may take a longer form
unfoldable pub reported : List (Row Told)
reported =
    is (report (bare 0x02 (2 ∷ 0 ∷ 0 ∷ 0 ∷ []) ∷ bare 0x04 (0 ∷ []) ∷ bare 0x05 (0 ∷ []) ∷ bare 0xfb (2 ∷ 0 ∷ 0 ∷ 0 ∷ []) ∷ [])) (reports (nat 2) none none 0 0)
    ∷ is (report (bare 0x02 (1 ∷ 0 ∷ 0 ∷ 0 ∷ []) ∷ bare 0x03 (0 ∷ 0 ∷ 0 ∷ 0 ∷ []) ∷ bare 0x04 (3 ∷ []) ∷ bare 0x05 (5 ∷ []) ∷ bare 0x06 (0 ∷ []) ∷ []))
    (reports (nat 1) (nat 0) (nat 0) 3 5)
    ∷ is (report (bare 0x02 (0xff ∷ 0xff ∷ 0xff ∷ 0xff ∷ [])
    ∷ bare 0x03 (0x00 ∷ 0x65 ∷ 0xcd ∷ 0x1d ∷ []) ∷ bare 0x04 (0xfd ∷ 1 ∷ 0 ∷ []) ∷ bare 0x05 (0xfd ∷ 0 ∷ 1 ∷ []) ∷ bare 0x06 (7 ∷ []) ∷ []))
    (reports (int (negsuc 0)) (nat 500_000_000) (nat 7) 1 256)
    ∷ is (report (bare 0x02 (0 ∷ 0 ∷ 0 ∷ 0x80 ∷ []) ∷ keyed 0x03 (1 ∷ []) ∷ keyed 0x04 (1 ∷ []) ∷ keyed 0x05 (1 ∷ []) ∷ keyed 0x06 (1 ∷ []) ∷ []))
    (reports (int (negsuc 0x7fff_ffff)) none none 0 0)
    ∷ is (report (bare 0x03 (9 ∷ 0 ∷ 0 ∷ 0 ∷ []) ∷ [])) (reports (nat 0) (nat 9) none 0 0)
    ∷ is (report (bare 0x06 (3 ∷ []) ∷ [])) (reports (nat 0) none (nat 3) 0 0)
    -- a count that can't be read, which no accepted map has, is 0
    ∷ is (report (bare 0x04 [] ∷ bare 0x05 (0xfd ∷ []) ∷ [])) (reports (nat 0) none none 0 0)
    ∷ []

-- so they are reported
pub globals_reported : Hold reported
unfolding lookups reported
globals_reported = refl

-- any of the two low flags of the modifiable byte; absent counts as 0
unfoldable pub flags : List (Row Bool)
flags =
    is (modifiable absent) false
    ∷ is (modifiable (found (0x00 ∷ []))) false
    ∷ is (modifiable (found (0x01 ∷ []))) true
    ∷ is (modifiable (found (0x02 ∷ []))) true
    ∷ is (modifiable (found (0x03 ∷ []))) true
    ∷ is (modifiable (found (0x04 ∷ []))) false
    ∷ is (modifiable (found (0x05 ∷ []))) true
    ∷ is (modifiable (found (0x06 ∷ []))) true
    ∷ is (modifiable (found (0x08 ∷ []))) false
    ∷ is (modifiable (found (0x80 ∷ []))) false
    ∷ is (modifiable (found (0xfc ∷ []))) false
    ∷ is (modifiable (found (0xfd ∷ []))) true
    ∷ is (modifiable (found (0xff ∷ []))) true
    ∷ []

-- these are set
pub low_flags : Hold flags
unfolding lookups flags
low_flags = refl

-- an output by low flags, script 04, code 09, label 0a: all sixteen cases
unfoldable pub output_cases : List (Row Ruled)
output_cases =
    is (output_by false false false false) (Err MissingOutputScript)
    ∷ is (output_by false false false true) (Err MissingOutputScript)
    ∷ is (output_by false false true false) passed
    ∷ is (output_by false false true true) passed
    ∷ is (output_by false true false false) passed
    ∷ is (output_by false true false true) (Err InvalidSilentPayment)
    ∷ is (output_by false true true false) passed
    ∷ is (output_by false true true true) passed
    ∷ is (output_by true false false false) (Err MissingOutputScript)
    ∷ is (output_by true false false true) (Err MissingOutputScript)
    ∷ is (output_by true false true false) passed
    ∷ is (output_by true false true true) passed
    ∷ is (output_by true true false false) passed
    ∷ is (output_by true true false true) (Err InvalidSilentPayment)
    ∷ is (output_by true true true false) (Err InvalidSilentPayment)
    ∷ is (output_by true true true true) (Err InvalidSilentPayment)
    ∷ []

-- so outputs are ruled
pub outputs_by_case : Hold output_cases
unfolding lookups output_cases
outputs_by_case = refl

-- a map of pairs
abbrev map_of : List Pair → Map
map_of ps = record { pairs = ps; end = 0 ∷ [] }

-- outputs by their pairs, with low flags or without; a key with data is neither script nor code
unfoldable pub output_maps : List (Row Ruled)
output_maps =
    is (output_rule true []) (Err MissingOutputScript)
    ∷ is (output_rule true (bare 0x04 [] ∷ [])) passed
    ∷ is (output_rule true (bare 0x09 [] ∷ [])) passed
    ∷ is (output_rule true (bare 0x0a [] ∷ [])) (Err MissingOutputScript)
    ∷ is (output_rule true (bare 0x03 [] ∷ bare 0x05 [] ∷ bare 0x08 [] ∷ [])) (Err MissingOutputScript)
    ∷ is (output_rule true (keyed 0x04 [] ∷ [])) (Err MissingOutputScript)
    ∷ is (output_rule true (keyed 0x09 [] ∷ [])) (Err MissingOutputScript)
    ∷ is (output_rule true (bare 0x04 [] ∷ bare 0x09 [] ∷ [])) (Err InvalidSilentPayment)
    ∷ is (output_rule false (bare 0x04 [] ∷ bare 0x09 [] ∷ [])) passed
    ∷ is (output_rule false (bare 0x04 [] ∷ bare 0x0a [] ∷ [])) (Err InvalidSilentPayment)
    ∷ is (output_rule false (bare 0x09 [] ∷ bare 0x0a [] ∷ [])) passed
    -- output by output, the first breach deciding
    ∷ is (outputs_rule true []) passed
    ∷ is (outputs_rule true (map_of (bare 0x04 [] ∷ []) ∷ map_of (bare 0x09 [] ∷ []) ∷ [])) passed
    ∷ is (outputs_rule true (map_of (bare 0x04 [] ∷ []) ∷ map_of [] ∷ [])) (Err MissingOutputScript)
    ∷ is (outputs_rule true (map_of [] ∷ map_of (bare 0x04 [] ∷ bare 0x09 [] ∷ []) ∷ [])) (Err MissingOutputScript)
    ∷ is (outputs_rule true (map_of (bare 0x04 [] ∷ bare 0x09 [] ∷ []) ∷ map_of [] ∷ [])) (Err InvalidSilentPayment)
    ∷ is (outputs_rule false (map_of (bare 0x04 [] ∷ bare 0x09 [] ∷ []) ∷ map_of [] ∷ [])) (Err MissingOutputScript)
    ∷ []

-- so they are ruled
pub outputs_ruled : Hold output_maps
unfolding lookups output_maps
outputs_ruled = refl

-- a content with a pair in its global map, one input and two outputs; the last map's end takes a longer form
abbrev small : Content
small = record {
  global = record { pairs = record { klen = 1 ∷ []; key = 0x10 ∷ []; vlen = 2 ∷ []; value = 0x11 ∷ 0x12 ∷ [] } ∷ []; end = 0 ∷ [] };
  ins = record { pairs = record { klen = 0xfd ∷ 2 ∷ 0 ∷ []; key = 0x20 ∷ 0x21 ∷ []; vlen = 0 ∷ []; value = [] } ∷ []; end = 0 ∷ [] } ∷ [];
  outs = map_of [] ∷ record { pairs = bare 0x30 [] ∷ bare 0x31 (5 ∷ []) ∷ []; end = 0xfd ∷ 0 ∷ 0 ∷ [] } ∷ [];
}

-- its bytes: magic, global map, inputs, outputs, each pair as it is spelled
unfoldable pub written : List (Row (List ℕ))
written =
    is (bytes small)
    (0x70 ∷ 0x73 ∷ 0x62 ∷ 0x74 ∷ 0xff ∷ 1 ∷ 0x10 ∷ 2 ∷ 0x11 ∷ 0x12 ∷ 0 ∷ 0xfd ∷ 2 ∷ 0 ∷ 0x20 ∷ 0x21 ∷ 0 ∷ 0 ∷ 0 ∷ 1 ∷ 0x30 ∷ 1 ∷ 0x31 ∷ 5 ∷ 0xfd ∷ 0 ∷ 0 ∷ [])
    ∷ []

-- so it is written
pub content_in_bytes : Hold written
unfolding lookups written
content_in_bytes = refl

-- a map that shows its number in its end
abbrev numbered : ℕ → Map
numbered n = record { pairs = []; end = n ∷ [] }

-- maps in file order: the global one, the inputs, the outputs
unfoldable pub in_order : List (Row (List Map))
in_order =
    is (maps_of (record { global = numbered 1; ins = numbered 2 ∷ numbered 3 ∷ []; outs = numbered 4 ∷ numbered 5 ∷ [] }))
    (numbered 1 ∷ numbered 2 ∷ numbered 3 ∷ numbered 4 ∷ numbered 5 ∷ [])
    ∷ is (maps_of (record { global = numbered 1; ins = []; outs = numbered 2 ∷ [] })) (numbered 1 ∷ numbered 2 ∷ [])
    ∷ []

-- so they follow each other
pub maps_in_order : Hold in_order
unfolding lookups in_order
maps_in_order = refl
