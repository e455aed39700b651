-- Parses into tables that held nines, computed: what is written, what stays, and that absent is not 0.
use Rattle.std.specs.Prelude.{ℕ, refl, List, [], ◌∷◌, ◌++◌, replicate, negsuc}
use Rattle.format.specs.Rows.{Row, is, Hold}
use Rattle.format.specs.Content.{magic}
use Rattle.format.specs.Parse.{parsed}
use Rattle.format.specs.Told.{told, none, int, nat, ToldParse, told_with, told_parse}
use Rattle.format.specs.ExampleFiles.{tx_version_def, fallback, input_count, output_count, modifiable_byte, version}
use Rattle.format.specs.ExampleFiles.{end, script, globals, file_e, file_f, pairs_e, pairs_f, maps_f}
use Rattle.format.specs.Computed.{computes, refused_with, accepted_with}

-- a file, both tables before, and both with the answer after
abbrev trace : List ℕ → List ℕ → List ℕ → ToldParse → Row ToldParse
trace f P M o = is (told_parse (parsed f P M)) o

-- what is written, what is left as it was, and that absent is not 0
unfoldable pub traces : List (Row ToldParse)
traces =
    trace file_e (replicate 17 9) (replicate 3 9) (told_with (accepted_with none none 0 0 4 1) (pairs_e ++ (9 ∷ [])) (0 ∷ 4 ∷ 9 ∷ []))
    ∷ trace file_f (replicate 34 9) (replicate 8 9) (told_with (accepted_with none none 1 1 8 3) (pairs_f ++ (9 ∷ 9 ∷ [])) (maps_f ++ (9 ∷ 9 ∷ [])))
    ∷ trace (magic
    ++ (1 ∷ 0x02 ∷ 4 ∷ 0xff ∷ 0xff ∷ 0xff ∷ 0xff ∷ (fallback 0 ++ (input_count 0 ++ (output_count 0 ++ (modifiable_byte 0 ++ (version 2 ++ end)))))))
    (replicate 24 9) (replicate 2 9)
    (told_with (told 0 (int (negsuc 0) ∷ nat 0 ∷ nat 0 ∷ nat 0 ∷ nat 0 ∷ nat 6 ∷ nat 1 ∷ [])) (6
    ∷ 1 ∷ 8 ∷ 4 ∷ 13 ∷ 1 ∷ 15 ∷ 4 ∷ 20 ∷ 1 ∷ 22 ∷ 1 ∷ 24 ∷ 1 ∷ 26 ∷ 1 ∷ 28 ∷ 1 ∷ 30 ∷ 1 ∷ 32 ∷ 1 ∷ 34 ∷ 4 ∷ []) (0 ∷ 6 ∷ []))
    ∷ trace (magic ++ (input_count 0 ++ (1 ∷ 0x02 ∷ []))) (replicate 8 9)
    (replicate 2 9) (told_with (refused_with 6 1 0) (6 ∷ 1 ∷ 8 ∷ 1 ∷ 9 ∷ 9 ∷ 9 ∷ 9 ∷ []) (9 ∷ 9 ∷ []))
    ∷ trace (magic ++ (tx_version_def ++ input_count 0)) (replicate 7 9) (replicate 2 9)
    (told_with (refused_with 22 1 0) (6 ∷ 1 ∷ 8 ∷ 4 ∷ 9 ∷ 9 ∷ 9 ∷ []) (9 ∷ 9 ∷ []))
    ∷ trace (magic ++ (version 3 ++ end)) (replicate 5 9) (replicate 3 9) (told_with (refused_with 8 1 1) (6 ∷ 1 ∷ 8 ∷ 4 ∷ 9 ∷ []) (0 ∷ 1 ∷ 9 ∷ []))
    ∷ trace (globals 0 1 [] [] ++ end) (replicate 17 9) (replicate 5 9) (told_with (refused_with 17 4 2) (pairs_e ++ (9 ∷ [])) (0 ∷ 4 ∷ 4 ∷ 0 ∷ 9 ∷ []))
    -- lengths and an end spelled by three bytes: what follows stands behind all of them
    ∷ trace
    (magic ++ (tx_version_def ++ (0xfd ∷ 1 ∷ 0 ∷ 0x04 ∷ 1 ∷ 1 ∷ (1 ∷ 0x05 ∷ 0xfd ∷ 1 ∷ 0 ∷ 0 ∷ (version 2 ++ (0xfd ∷ 0 ∷ 0 ∷ 2 ∷ 0x7f ∷ 5 ∷ 1 ∷ 6 ∷ 0 ∷ []))))))
    (replicate 20 9) (replicate 4 9)
    (told_with (accepted_with none none 1 0 5 2)
    (6 ∷ 1 ∷ 8 ∷ 4 ∷ 15 ∷ 1 ∷ 17 ∷ 1 ∷ 19 ∷ 1 ∷ 23 ∷ 1 ∷ 25 ∷ 1 ∷ 27 ∷ 4 ∷ 35 ∷ 2 ∷ 38 ∷ 1 ∷ []) (0 ∷ 4 ∷ 4 ∷ 1 ∷ []))
    -- two inputs, the first without pairs, and an output
    ∷ trace (globals 2 1 [] [] ++ (0 ∷ 1 ∷ 0x7f ∷ 0 ∷ 0 ∷ (script ++ end))) (replicate 24 9) (replicate 8 9)
    (told_with (accepted_with none none 2 1 6 4) (pairs_e ++ (30 ∷ 1 ∷ 32 ∷ 0 ∷ 34 ∷ 1 ∷ 36 ∷ 1 ∷ [])) (0 ∷ 4 ∷ 4 ∷ 0 ∷ 4 ∷ 1 ∷ 5 ∷ 1 ∷ []))
    ∷ []

-- each trace ends as it says
pub tables_as_left : Hold traces
unfolding computes told_parse traces
tables_as_left = refl
