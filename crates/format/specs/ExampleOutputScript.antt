-- Computed examples of an output's script: in the file, in the script table, absent or refused; and the part that stands there.
use Rattle.std.specs.Prelude.{ℕ, refl, true, false, List, [], ◌∷◌, ◌++◌, replicate, Ok, Err, Some, None}
use Rattle.format.specs.Rows.{Row, is, Hold}
use Rattle.format.specs.Tables.{held_output, Held, no, holds}
use Rattle.format.specs.Lookups.{place}
use Rattle.format.specs.Transaction.{script_place, output_script_def, script_part}
use Rattle.format.specs.Told.{Told, told, nat, told_script}
use Rattle.format.specs.ExampleFiles.{file_f, psbt_f, pairs_f, maps_f, fresh}
use Rattle.format.specs.ExampleMaps.{taproot_script}
use Rattle.format.specs.Computed.{computes}
use Rattle.format.specs.declared.PsbtError.TheVariants.{OutOfRange, BadIndex}
use Rattle.format.specs.declared.State.{State}
use Rattle.format.specs.declared.ScriptPlace.TheVariants as O

-- scripts were set
abbrev served : State
served = record { set = true; written = false }

-- a silent output's map in a file of its own: a pair 03, a pair 09
abbrev silent_file : List ℕ
silent_file = 1 ∷ 0x03 ∷ 1 ∷ 5 ∷ 1 ∷ 0x09 ∷ 1 ∷ 6 ∷ []

-- its entries
abbrev silent_held : Held
silent_held = holds (record { key = 1; klen = 1; value = 3; vlen = 1 } ∷ record { key = 5; klen = 1; value = 7; vlen = 1 } ∷ [])

-- a plain output's, with a script of two bytes behind one of 03
abbrev plain_file : List ℕ
plain_file = 1 ∷ 0x03 ∷ 1 ∷ 5 ∷ 1 ∷ 0x04 ∷ 2 ∷ 6 ∷ 7 ∷ []

-- its entries
abbrev plain_held : Held
plain_held = holds (record { key = 1; klen = 1; value = 3; vlen = 1 } ∷ record { key = 5; klen = 1; value = 7; vlen = 2 } ∷ [])

-- what is told of output number i
unfoldable pub asks : List ℕ → State → List ℕ → ℕ → Held → Told
unfolding computes place script_place output_script_def told_script
asks f t T i h = told_script (output_script_def f t T i h)

-- two entries of the script table: zeros, and a script
abbrev two : List ℕ
two = replicate 35 0 ++ (1 ∷ taproot_script 7)

-- places: 04 in the file, else the one set, behind the first byte of its own entry
unfoldable pub places : List (Row Told)
places =
    -- the script of F's output, an output that F lacks, an unfit map
    is (asks file_f fresh [] 0 (held_output file_f pairs_f maps_f psbt_f 0)) (told 0 (nat 0 ∷ nat 85 ∷ nat 1 ∷ []))
    ∷ is (asks file_f fresh [] 1 (held_output file_f pairs_f maps_f psbt_f 1)) (told 14 [])
    ∷ is (asks file_f fresh [] 0 (held_output file_f pairs_f (0 ∷ 4 ∷ 4 ∷ 2 ∷ 6 ∷ 3 ∷ []) psbt_f 0)) (told 24 [])
    -- nothing was set
    ∷ is (asks plain_file fresh [] 0 plain_held) (told 0 (nat 0 ∷ nat 7 ∷ nat 2 ∷ []))
    ∷ is (asks plain_file fresh (1 ∷ taproot_script 7) 0 plain_held) (told 0 (nat 0 ∷ nat 7 ∷ nat 2 ∷ []))
    ∷ is (asks silent_file fresh [] 0 silent_held) (told 0 [])
    ∷ is (asks silent_file fresh (1 ∷ taproot_script 7) 0 silent_held) (told 0 [])
    -- scripts were set: the entry of that output alone is looked at
    ∷ is (asks silent_file served (1 ∷ taproot_script 7) 0 silent_held) (told 0 (nat 1 ∷ nat 1 ∷ nat 34 ∷ []))
    ∷ is (asks silent_file served two 1 silent_held) (told 0 (nat 1 ∷ nat 36 ∷ nat 34 ∷ []))
    ∷ is (asks silent_file (record { set = true; written = true }) two 1 silent_held) (told 0 (nat 1 ∷ nat 36 ∷ nat 34 ∷ []))
    ∷ is (asks silent_file served (replicate 35 9 ++ (1 ∷ taproot_script 7)) 1 silent_held) (told 0 (nat 1 ∷ nat 36 ∷ nat 34 ∷ []))
    ∷ is (asks plain_file served two 0 plain_held) (told 0 (nat 0 ∷ nat 7 ∷ nat 2 ∷ []))
    -- an entry that the setter would not write, a table too short
    ∷ is (asks silent_file served two 0 silent_held) (told 24 [])
    ∷ is (asks plain_file served two 1 plain_held) (told 24 [])
    ∷ is (asks silent_file served [] 0 silent_held) (told 24 [])
    ∷ is (asks plain_file served [] 0 plain_held) (told 24 [])
    ∷ is (asks silent_file served two 2 silent_held) (told 24 [])
    -- the map's refusal before the table's
    ∷ is (asks silent_file served [] 0 (no OutOfRange)) (told 14 [])
    ∷ is (asks silent_file served [] 0 (no BadIndex)) (told 24 [])
    ∷ []

-- so a script is found
pub script_places : Hold places
unfolding computes held_output asks places
script_places = refl

-- the part that stands there: of the file, of the script table, none
unfoldable pub parts : List (Row (List ℕ))
parts =
    is (script_part file_f [] (Ok (Some (O.InFile 85 1)))) (0x51 ∷ [])
    ∷ is (script_part plain_file two (Ok (Some (O.InFile 7 2)))) (6 ∷ 7 ∷ [])
    ∷ is (script_part plain_file two (Ok (Some (O.InTable 36 34)))) (taproot_script 7)
    ∷ is (script_part plain_file two (Ok None)) []
    ∷ is (script_part plain_file two (Err BadIndex)) []
    ∷ []

-- so it is handed back
pub script_parts : Hold parts
unfolding script_part parts
script_parts = refl
