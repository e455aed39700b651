-- Where parses of short files stop, computed.
use Rattle.std.specs.Prelude.{ℕ, ◌*◌, ◌≡◌, refl, List, [], ◌∷◌, ◌++◌, map, replicate, take}
use Rattle.format.specs.Content.{magic}
use Rattle.format.specs.Entries.{pair_words, map_words}
use Rattle.format.specs.Parse.{ParseOut, out, parsed}
use Rattle.format.specs.ExampleFiles.{tx_version_def, input_count, output_count, version, end, txid, output_index, amount, script, label}
use Rattle.format.specs.ExampleFiles.{globals, file_e, file_f, file_f_with}
use Rattle.format.specs.Computed.{computes}
use Rattle.format.specs.declared.PsbtError.{PsbtError}
use Rattle.format.specs.declared.PsbtError.TheVariants.{TooLong}
use Rattle.format.specs.declared.Parsed.TheVariants.{Accepted, Refused}
use Rattle.entries.specs.Words.{map_at}
use Rattle.claims_reading.specs.Found.{find_in}
use Rattle.text.specs.Say.{say}
use Rattle.text.specs.Spelled.{digit, decimal_in, decimal}
use Rattle.stop_lines.specs.Stops.{one_of, behind_global, in_map_def, place_at, pairs_before, pairs_passed, global_shown, count_shown, stopped, after_pairs}
use Rattle.stop_lines.specs.Stops.{stop_line}
use Rattle.stop_lines.specs.declared.Place.{Place}

-- the line of a parse, none where it is accepted
unfoldable pub stop_of : List ℕ → ParseOut → List ℕ
stop_of f (out (Refused e p m) P M) = stop_line (stopped f P M e p m)
stop_of f (out (Accepted s p m) P M) = []

-- that of a file, with room for so many pairs and maps in tables that held something else before
unfoldable pub stop_in : ℕ → ℕ → List ℕ → List ℕ
stop_in p m f = stop_of f (parsed f (replicate (p * pair_words) 7) (replicate (m * map_words) 7))

-- all that a place is made of
unfoldable pub halts : List ℕ → List ℕ → List ℕ → PsbtError → ℕ → ℕ → Place
unfolding computes map_at find_in one_of behind_global in_map_def place_at pairs_before pairs_passed global_shown count_shown stopped
halts = stopped

-- all that a line is made of
unfoldable pub stops : ℕ → ℕ → List ℕ → List ℕ
unfolding halts digit decimal_in decimal after_pairs stop_line stop_of stop_in
stops = stop_in

-- a global map that counts n inputs and m outputs and has the version x
abbrev pub counts : ℕ → ℕ → List ℕ → List ℕ
counts n m x = magic ++ (tx_version_def ++ (input_count n ++ (output_count m ++ (x ++ end))))

-- in the global map: nothing behind the magic; a field twice; the counts in a wrong order; a field 00; no bytes where the version should stand
pub in_global : map (stop_in 16 4)
    (magic
    ∷ (magic ++ (tx_version_def ++ tx_version_def))
    ∷ (magic ++ (tx_version_def ++ (output_count 0 ++ (input_count 0 ++ (version 2 ++ end)))))
    ∷ (magic ++ (1 ∷ 0 ∷ 0 ∷ end))
    ∷ take 20 file_e
    ∷ [])
    ≡ say "stopped in the global map, after 0 pairs\n"
    ∷ say "stopped in the global map, after 1 pair\n"
    ∷ say "stopped in the global map, after 2 pairs\n"
    ∷ say "stopped in the global map, after 0 pairs\n"
    ∷ say "stopped in the global map, after 3 pairs\n"
    ∷ []
unfolding stops
in_global = refl

-- at its end, by its own rule: version 3; no version; with maps behind it too
pub at_its_end : map (stop_in 16 4) (counts 0 0 (version 3) ∷ counts 0 0 [] ∷ (counts 1 1 (version 3) ++ (end ++ end)) ∷ [])
    ≡ say "stopped at the end of the global map\n" ∷ say "stopped at the end of the global map\n" ∷ say "stopped at the end of the global map\n" ∷ []
unfolding stops
at_its_end = refl

-- in an input: no byte of it; a field twice; a wrong order behind two pairs; the same in the second input
pub in_input : map (stop_in 16 4)
    (globals 1 1 [] []
    ∷ (globals 1 1 [] [] ++ (output_index ++ output_index))
    ∷ file_f_with [] output_index script
    ∷ (globals 2 0 [] [] ++ (output_index ++ (end ++ (txid ++ txid))))
    ∷ [])
    ≡ say "stopped in input 0, after 0 pairs\n"
    ∷ say "stopped in input 0, after 1 pair\n"
    ∷ say "stopped in input 0, after 2 pairs\n"
    ∷ say "stopped in input 1, after 1 pair\n"
    ∷ []
unfolding stops
in_input = refl

-- in an output: F cut off behind its input; an amount twice; the same in the second output of a file without inputs; a label behind two pairs
pub in_output : map (stop_in 16 4)
    (take 71 file_f
    ∷ file_f_with [] [] amount
    ∷ (globals 0 2 [] [] ++ (script ++ (end ++ (amount ++ (amount ++ end)))))
    ∷ (globals 0 1 [] [] ++ (amount ++ (script ++ take 6 label)))
    ∷ [])
    ≡ say "stopped in output 0, after 0 pairs\n"
    ∷ say "stopped in output 0, after 1 pair\n"
    ∷ say "stopped in output 1, after 1 pair\n"
    ∷ say "stopped in output 0, after 2 pairs\n"
    ∷ []
unfolding stops
in_output = refl

-- behind the last map: a byte left over, with no input and output or with some; an output without a script
pub behind_all : map (stop_in 16 4) ((file_e ++ end) ∷ (file_f ++ end) ∷ file_f_with [] [] [] ∷ [])
    ≡ say "stopped behind the last map\n" ∷ say "stopped behind the last map\n" ∷ say "stopped behind the last map\n" ∷ []
unfolding stops
behind_all = refl

-- where a table is full: F with room for 3, 4, 5, 6 and 7 pairs, and for no map, one and two
pub full_pairs : map (λ (n : ℕ). stop_in n 4 file_f) (3 ∷ 4 ∷ 5 ∷ 6 ∷ 7 ∷ [])
    ≡ say "stopped in the global map, after 3 pairs\n"
    ∷ say "stopped in input 0, after 0 pairs\n"
    ∷ say "stopped in input 0, after 1 pair\n"
    ∷ say "stopped in output 0, after 0 pairs\n"
    ∷ say "stopped in output 0, after 1 pair\n"
    ∷ []
unfolding stops
full_pairs = refl

pub full_maps : map (λ (n : ℕ). stop_in 16 n file_f) (0 ∷ 1 ∷ 2 ∷ [])
    ≡ say "stopped in the global map, after 0 pairs\n"
    ∷ say "stopped in input 0, after 0 pairs\n"
    ∷ say "stopped in output 0, after 0 pairs\n"
    ∷ []
unfolding stops
full_maps = refl

-- no line: no file, another beginning, an accepted file
pub no_line : map (stop_in 16 4) ([] ∷ (0 ∷ file_e) ∷ file_f ∷ []) ≡ [] ∷ [] ∷ [] ∷ []
unfolding stops
no_line = refl

-- nor of a file that is too long
pub no_line_too_long : (f P M : List ℕ) (p m : ℕ) → stop_line (stopped f P M TooLong p m) ≡ []
unfolding stops
no_line_too_long f P M p m = refl
