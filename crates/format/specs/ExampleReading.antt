-- Computed examples of reading a file: its magic, the field rules of each kind of map, as many maps as are counted, and the content that is read.
use Rattle.std.specs.Prelude.{ℕ, refl, List, [], ◌∷◌, ◌++◌, replicate}
use Rattle.format.specs.Rows.{Row, is, Hold}
use Rattle.format.specs.Content.{Pair, Map, magic}
use Rattle.format.specs.Reading.{two, Verdict, accepted, refused, outcome, reading_of, reading}
use Rattle.format.specs.Told.{Told, none, nat}
use Rattle.format.specs.ExampleFiles.{fallback, modifiable_byte, end, script, globals, file_e, file_f}
use Rattle.format.specs.ExampleMaps.{pair_of}
use Rattle.format.specs.RefusalOrder.{with_room}
use Rattle.format.specs.Computed.{computes, refused_with, accepted_with}
use Rattle.format.specs.declared.PsbtError.TheVariants.{InvalidMagic, UnexpectedEof, BadValue}

-- what is told of a parse with room for 8 pairs and 6 maps
unfoldable pub reads : List ℕ → Told
unfolding with_room
reads f = with_room 32 12 f

-- each byte of the magic counts, and all five have to be there
unfoldable pub beginnings : List (Row Told)
beginnings =
    is (reads []) (refused_with 1 0 0)
    ∷ is (reads (0x70 ∷ 0x73 ∷ 0x62 ∷ 0x74 ∷ [])) (refused_with 1 0 0)
    ∷ is (reads (0x71 ∷ 0x73 ∷ 0x62 ∷ 0x74 ∷ 0xff ∷ 0 ∷ [])) (refused_with 1 0 0)
    ∷ is (reads (0x70 ∷ 0x72 ∷ 0x62 ∷ 0x74 ∷ 0xff ∷ 0 ∷ [])) (refused_with 1 0 0)
    ∷ is (reads (0x70 ∷ 0x73 ∷ 0x63 ∷ 0x74 ∷ 0xff ∷ 0 ∷ [])) (refused_with 1 0 0)
    ∷ is (reads (0x70 ∷ 0x73 ∷ 0x62 ∷ 0x75 ∷ 0xff ∷ 0 ∷ [])) (refused_with 1 0 0)
    ∷ is (reads (0x70 ∷ 0x73 ∷ 0x62 ∷ 0x74 ∷ 0xfe ∷ 0 ∷ [])) (refused_with 1 0 0)
    ∷ is (reads (0x70 ∷ 0x73 ∷ 0x62 ∷ 0x74 ∷ 0xff ∷ [])) (refused_with 2 0 0)
    ∷ is (reads (0x70 ∷ 0x73 ∷ 0x62 ∷ 0x74 ∷ 0xff ∷ 0 ∷ [])) (refused_with 8 0 1)
    ∷ []

-- so a file begins
pub magic_bytes : Hold beginnings
unfolding reads beginnings
magic_bytes = refl

-- bytes that run out: in a key's length, in a key, in a value's length, in a value, before a map's end
unfoldable pub cuts : List (Row Told)
cuts =
    is (reads (magic ++ (0xfd ∷ 1 ∷ []))) (refused_with 2 0 0)
    ∷ is (reads (magic ++ (2 ∷ 0x7f ∷ []))) (refused_with 2 0 0)
    ∷ is (reads (magic ++ (1 ∷ 0x7f ∷ []))) (refused_with 2 0 0)
    ∷ is (reads (magic ++ (1 ∷ 0x7f ∷ 0xfe ∷ 0 ∷ 0 ∷ 0 ∷ []))) (refused_with 2 0 0)
    ∷ is (reads (magic ++ (1 ∷ 0x7f ∷ 1 ∷ []))) (refused_with 2 0 0)
    ∷ is (reads (magic ++ (1 ∷ 0x7f ∷ 3 ∷ 5 ∷ 6 ∷ []))) (refused_with 2 0 0)
    ∷ is (reads (magic ++ (1 ∷ 0x7f ∷ 2 ∷ 5 ∷ 6 ∷ []))) (refused_with 2 1 0)
    ∷ is (reads (magic ++ (1 ∷ 0x7f ∷ 2 ∷ 5 ∷ 6 ∷ 1 ∷ []))) (refused_with 2 1 0)
    ∷ []

-- so reading stops
pub bytes_run_out : Hold cuts
unfolding reads cuts
bytes_run_out = refl

-- a file with one input and one output, with so many bytes in a pair of the input and in one of the output
abbrev kinds : ℕ → ℕ → ℕ → ℕ → List ℕ
kinds t n u m = globals 1 1 [] [] ++ (1 ∷ t ∷ n ∷ (replicate n 0 ++ (0 ∷ 1 ∷ u ∷ m ∷ (replicate m 0 ++ (script ++ end)))))

-- each kind of map has its own field rules: global 06 has 1 byte, input 0f has 4, output 03 has 8, and in other maps such types have any
unfoldable pub map_kinds : List (Row Told)
map_kinds =
    is (reads (globals 0 0 [] (modifiable_byte 1))) (accepted_with none (nat 1) 0 0 5 1)
    ∷ is (reads (globals 0 0 [] (1 ∷ 0x06 ∷ 2 ∷ 0 ∷ 0 ∷ []))) (refused_with 7 3 0)
    ∷ is (reads (globals 0 0 [] (1 ∷ 0x0f ∷ 3 ∷ 0 ∷ 0 ∷ 0 ∷ []))) (accepted_with none none 0 0 5 1)
    ∷ is (reads (kinds 0x06 2 0x02 3)) (accepted_with none none 1 1 7 3)
    ∷ is (reads (kinds 0x0f 4 0x03 8)) (accepted_with none none 1 1 7 3)
    ∷ is (reads (kinds 0x0f 3 0x03 8)) (refused_with 7 4 1)
    ∷ is (reads (kinds 0x03 4 0x03 7)) (refused_with 7 5 2)
    ∷ is (reads (kinds 0x03 8 0x03 8)) (refused_with 7 4 1)
    ∷ is (reads (kinds 0x0f 4 0x03 4)) (refused_with 7 5 2)
    ∷ []

-- so each map has its rules
pub rules_by_map : Hold map_kinds
unfolding reads map_kinds
rules_by_map = refl

-- as many inputs and then outputs as are counted, no more, no fewer
unfoldable pub counts : List (Row Told)
counts =
    is (reads (globals 2 0 [] [] ++ (0 ∷ 0 ∷ []))) (accepted_with none none 2 0 4 3)
    ∷ is (reads (globals 2 0 [] [] ++ (0 ∷ []))) (refused_with 2 4 2)
    ∷ is (reads (globals 2 0 [] [] ++ (0 ∷ 0 ∷ 0 ∷ []))) (refused_with 2 4 3)
    ∷ is (reads (globals 0 2 [] [] ++ (script ++ (0 ∷ (script ++ (0 ∷ [])))))) (accepted_with none none 0 2 6 3)
    ∷ is (reads (globals 1 2 [] [] ++ (0 ∷ (script ++ (0 ∷ (script ++ (0 ∷ []))))))) (accepted_with none none 1 2 6 4)
    ∷ is (reads (globals 2 1 [] [] ++ (0 ∷ 0 ∷ (script ++ (0 ∷ []))))) (accepted_with none none 2 1 5 4)
    ∷ is (reads (globals 0 0 (fallback 7) [])) (accepted_with (nat 7) none 0 0 5 1)
    ∷ []

-- so maps are counted
pub maps_as_counted : Hold counts
unfolding reads counts
maps_as_counted = refl

-- a map of pairs, ended by 00
abbrev ends : List Pair → Map
ends ps = record { pairs = ps; end = 0 ∷ [] }

-- the global map of so many inputs and outputs
abbrev global_map : ℕ → ℕ → Map
global_map n m = ends (pair_of 0x02 (2 ∷ 0 ∷ 0 ∷ 0 ∷ []) ∷ pair_of 0x04 (n ∷ []) ∷ pair_of 0x05 (m ∷ []) ∷ pair_of 0xfb (2 ∷ 0 ∷ 0 ∷ 0 ∷ []) ∷ [])

-- contents: maps in file order, pairs in their order, with the bytes that spell lengths and ends; or the first refusal
unfoldable pub contents : List (Row Verdict)
contents =
    is (reading file_e) (accepted (record { global = global_map 0 0; ins = []; outs = [] }))
    ∷ is (reading file_f) (accepted (record {
      global = global_map 1 1;
      ins = ends (pair_of 0x0e (replicate 32 0x11) ∷ pair_of 0x0f (0 ∷ 0 ∷ 0 ∷ 0 ∷ []) ∷ []) ∷ [];
      outs = ends (pair_of 0x03 (0xe8 ∷ 3 ∷ 0 ∷ 0 ∷ 0 ∷ 0 ∷ 0 ∷ 0 ∷ []) ∷ pair_of 0x04 (0x51 ∷ []) ∷ []) ∷ [];
    }))
    -- two inputs, the first ended by fd0000; two outputs; lengths spelled by three and by five bytes
    ∷ is (reading (globals 2 2 [] []
    ++ (0xfd ∷ 1 ∷ 0 ∷ 0x7f ∷ 1 ∷ 5 ∷ 0xfd ∷ 0 ∷ 0 ∷ 2 ∷ 0x19 ∷ 7 ∷ 0xfe ∷ 2 ∷ 0 ∷ 0 ∷ 0 ∷ 8 ∷ 9 ∷ 0 ∷ 1 ∷ 0x04 ∷ 0 ∷ 0 ∷ (script ++ (0 ∷ [])))))
    (accepted (record {
      global = global_map 2 2;
      ins =
          record { pairs = record { klen = 0xfd ∷ 1 ∷ 0 ∷ []; key = 0x7f ∷ []; vlen = 1 ∷ []; value = 5 ∷ [] } ∷ []; end = 0xfd ∷ 0 ∷ 0 ∷ [] }
          ∷ ends (record { klen = 2 ∷ []; key = 0x19 ∷ 7 ∷ []; vlen = 0xfe ∷ 2 ∷ 0 ∷ 0 ∷ 0 ∷ []; value = 8 ∷ 9 ∷ [] } ∷ [])
          ∷ [];
      outs = ends (pair_of 0x04 [] ∷ []) ∷ ends (pair_of 0x04 (0x51 ∷ []) ∷ []) ∷ [];
    }))
    ∷ is (reading_of two file_e) (accepted (record { global = global_map 0 0; ins = []; outs = [] }))
    ∷ is (reading []) (refused InvalidMagic)
    ∷ is (reading magic) (refused UnexpectedEof)
    ∷ is (reading (globals 1 0 [] [] ++ (1 ∷ 0x0f ∷ 0 ∷ []))) (refused BadValue)
    ∷ []

-- so a file is read
pub contents_read : Hold contents
unfolding computes outcome reading_of reading contents
contents_read = refl
