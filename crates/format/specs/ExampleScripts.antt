-- Computed examples of the setter: the assignments as given, the table as it is left, each cause of 19, and what is refused first.
use Rattle.std.specs.Prelude.{ℕ, refl, Bool, true, false, List, [], ◌∷◌, ◌++◌, length, replicate, None}
use Rattle.format.specs.Rows.{Row, is, Hold}
use Rattle.format.specs.Refusals.{number_of}
use Rattle.format.specs.Tests.{only, every}
use Rattle.format.specs.Keys.{order, same, key_of}
use Rattle.format.specs.Content.{absent, found, present, find, field}
use Rattle.format.specs.Tables.{View, hides, shows, gather_by, gather, maps_reported}
use Rattle.format.specs.Locks.{missing, misfit, is as bytes, sized_to, in_of}
use Rattle.format.specs.Scripts.{Out, out_of, reported_by, reported, script_in, taproot, allowed, named, served, Given, whole, cut_short}
use Rattle.format.specs.Scripts.{and_more, flat, entry_for, entries_for, right_for, settable, after_set, set_table, set_given, set_by, set_scripts}
use Rattle.format.specs.Told.{told, flag, told_set, ToldOut, told_left, told_set_out}
use Rattle.format.specs.ExampleFiles.{fresh}
use Rattle.format.specs.ExampleMaps.{pair_of, views, reporting, taproot_script, plain_out, silent_out}
use Rattle.format.specs.declared.PsbtError.TheVariants.{BadIndex}
use Rattle.format.specs.declared.State.{State}
use Rattle.format.specs.declared.Assignment.{Assignment}

-- an output's fields: amount 03 of 8 bytes, script 04 of any length; those with key data and others count for nothing
unfoldable pub outputs : List (Row Out)
outputs =
    is (out_of []) (record { amount = missing; script = absent })
    ∷ is (out_of (pair_of 0x03 (replicate 8 1) ∷ pair_of 0x04 (0x51 ∷ []) ∷ [])) (record { amount = bytes (replicate 8 1); script = found (0x51 ∷ []) })
    ∷ is (out_of (pair_of 0x03 (replicate 7 1) ∷ pair_of 0x04 [] ∷ [])) (record { amount = misfit; script = found [] })
    ∷ is (out_of (pair_of 0x03 (replicate 9 1) ∷ [])) (record { amount = misfit; script = absent })
    ∷ is (out_of (pair_of 0x02 (replicate 8 1) ∷ pair_of 0x05 (0x51 ∷ []) ∷ pair_of 0x09 [] ∷ [])) (record { amount = missing; script = absent })
    ∷ is (out_of (record { klen = 2 ∷ []; key = 0x04 ∷ 0 ∷ []; vlen = 1 ∷ []; value = 0x51 ∷ [] } ∷ [])) (record { amount = missing; script = absent })
    ∷ []

-- so an output's pairs are taken
pub output_fields : Hold outputs
unfolding order same key_of find field sized_to out_of outputs
output_fields = refl

-- an assignment
abbrev gives : ℕ → ℕ → ℕ → Assignment
gives o s n = record { output = o; start = s; len = n }

-- numbers by threes: output, start, length; a list that ends inside a record is cut short
unfoldable pub flats : List (Row Given)
flats =
    is (flat []) (whole [])
    ∷ is (flat (7 ∷ [])) cut_short
    ∷ is (flat (7 ∷ 8 ∷ [])) cut_short
    ∷ is (flat (7 ∷ 8 ∷ 9 ∷ [])) (whole (gives 7 8 9 ∷ []))
    ∷ is (flat (7 ∷ 8 ∷ 9 ∷ 1 ∷ [])) cut_short
    ∷ is (flat (7 ∷ 8 ∷ 9 ∷ 1 ∷ 2 ∷ [])) cut_short
    ∷ is (flat (7 ∷ 8 ∷ 9 ∷ 1 ∷ 2 ∷ 3 ∷ [])) (whole (gives 7 8 9 ∷ gives 1 2 3 ∷ []))
    ∷ []

-- so lists of numbers are read
pub flat_lists : Hold flats
unfolding and_more flat flats
flat_lists = refl

-- 34 bytes that begin 51 20
unfoldable pub shapes : List (Row Bool)
shapes =
    is (taproot (taproot_script 7)) true
    ∷ is (taproot []) false
    ∷ is (taproot (0x51 ∷ 0x20 ∷ [])) false
    ∷ is (taproot (0x51 ∷ 0x20 ∷ replicate 31 7)) false
    ∷ is (taproot (0x51 ∷ 0x20 ∷ replicate 33 7)) false
    ∷ is (taproot (0x50 ∷ 0x20 ∷ replicate 32 7)) false
    ∷ is (taproot (0x52 ∷ 0x20 ∷ replicate 32 7)) false
    ∷ is (taproot (0x51 ∷ 0x21 ∷ replicate 32 7)) false
    ∷ is (taproot (0x20 ∷ 0x51 ∷ replicate 32 7)) false
    ∷ []

-- so a taproot script is told from others
pub taproot_shapes : Hold shapes
unfolding order same taproot shapes
taproot_shapes = refl

-- the setter on outputs behind a global map and an input, with numbers given by threes
unfoldable pub sets : List View → List ℕ → List ℕ → State → List ℕ → ToldOut
unfolding number_of only every order same key_of present find field gather_by gather maps_reported sized_to in_of out_of reported_by reported
    script_in taproot allowed named served and_more flat entry_for entries_for right_for settable after_set set_table set_given set_by set_scripts told_set
    told_set_out views
sets outs xs buffer t T = told_set_out (set_scripts (views (shows [] ∷ shows [] ∷ outs)) (reporting None 1 (length outs)) (flat xs) buffer t T)

-- set, and the table
abbrev done : List ℕ → ToldOut
done T = told_left (told 0 (flag true ∷ flag false ∷ [])) T

-- two scripts of 34 bytes behind a byte
abbrev pub scripts : List ℕ
scripts = 9 ∷ (taproot_script 7 ++ taproot_script 8)

-- accepted: 01 and the script for an output without one, 35 zero bytes for one with; whatever the order of assignments; the rest of the table stays
unfoldable pub accepted : List (Row ToldOut)
accepted =
    is (sets (silent_out ∷ []) (0 ∷ 1 ∷ 34 ∷ []) scripts fresh (replicate 35 9)) (done (1 ∷ taproot_script 7))
    ∷ is (sets (silent_out ∷ []) (0 ∷ 0 ∷ 34 ∷ []) (taproot_script 7) fresh (replicate 35 9)) (done (1 ∷ taproot_script 7))
    ∷ is (sets (silent_out ∷ []) (0 ∷ 35 ∷ 34 ∷ []) scripts fresh (replicate 37 9)) (done (1 ∷ (taproot_script 8 ++ (9 ∷ 9 ∷ []))))
    ∷ is (sets (silent_out ∷ silent_out ∷ []) (0 ∷ 1 ∷ 34 ∷ 1 ∷ 35 ∷ 34 ∷ []) scripts fresh (replicate 71 9))
    (done (1 ∷ (taproot_script 7 ++ (1 ∷ (taproot_script 8 ++ (9 ∷ []))))))
    ∷ is (sets (silent_out ∷ silent_out ∷ []) (1 ∷ 1 ∷ 34 ∷ 0 ∷ 35 ∷ 34 ∷ []) scripts fresh (replicate 70 9))
    (done (1 ∷ (taproot_script 8 ++ (1 ∷ taproot_script 7))))
    ∷ is (sets (silent_out ∷ silent_out ∷ []) (0 ∷ 1 ∷ 34 ∷ 1 ∷ 1 ∷ 34 ∷ []) scripts fresh (replicate 70 9))
    (done (1 ∷ (taproot_script 7 ++ (1 ∷ taproot_script 7))))
    ∷ is (sets (plain_out ∷ silent_out ∷ plain_out ∷ []) (1 ∷ 1 ∷ 34 ∷ []) scripts fresh (replicate 106 9))
    (done (replicate 35 0 ++ (1 ∷ (taproot_script 7 ++ (replicate 35 0 ++ (9 ∷ []))))))
    ∷ is (sets (plain_out ∷ []) [] [] fresh (replicate 36 9)) (done (replicate 35 0 ++ (9 ∷ [])))
    ∷ is (sets [] [] [] fresh (9 ∷ [])) (told_left (told 0 (flag false ∷ flag false ∷ [])) (9 ∷ []))
    ∷ is (sets [] [] scripts fresh []) (told_left (told 0 (flag false ∷ flag false ∷ [])) [])
    ∷ []

-- so scripts are set
pub scripts_set : Hold accepted
unfolding sets accepted
scripts_set = refl

-- a refusal, and the table as it was
abbrev refuses : ℕ → ToldOut
refuses n = told_left (told n []) (replicate 70 9)

-- each cause of 19, alone
unfoldable pub causes : List (Row ToldOut)
causes =
    -- scripts were set already, a transaction was written
    is (sets (silent_out ∷ []) (0 ∷ 1 ∷ 34 ∷ []) scripts (record { set = true; written = false }) (replicate 70 9)) (refuses 19)
    ∷ is (sets (silent_out ∷ []) (0 ∷ 1 ∷ 34 ∷ []) scripts (record { set = false; written = true }) (replicate 70 9)) (refuses 19)
    ∷ is (sets (silent_out ∷ []) (0 ∷ 1 ∷ 34 ∷ []) scripts (record { set = true; written = true }) (replicate 70 9)) (refuses 19)
    ∷ is (sets [] [] [] (record { set = false; written = true }) (replicate 70 9)) (refuses 19)
    ∷ is (sets [] [] [] (record { set = true; written = false }) (replicate 70 9)) (refuses 19)
    -- no such output
    ∷ is (sets (silent_out ∷ []) (0 ∷ 1 ∷ 34 ∷ 1 ∷ 35 ∷ 34 ∷ []) scripts fresh (replicate 70 9)) (refuses 19)
    ∷ is (sets (plain_out ∷ []) (1 ∷ 1 ∷ 34 ∷ []) scripts fresh (replicate 70 9)) (refuses 19)
    ∷ is (sets [] (0 ∷ 1 ∷ 34 ∷ []) scripts fresh (replicate 70 9)) (refuses 19)
    -- an output named twice, also with one script
    ∷ is (sets (silent_out ∷ []) (0 ∷ 1 ∷ 34 ∷ 0 ∷ 35 ∷ 34 ∷ []) scripts fresh (replicate 70 9)) (refuses 19)
    ∷ is (sets (silent_out ∷ []) (0 ∷ 1 ∷ 34 ∷ 0 ∷ 1 ∷ 34 ∷ []) scripts fresh (replicate 70 9)) (refuses 19)
    -- an output that has script 04
    ∷ is (sets (plain_out ∷ []) (0 ∷ 1 ∷ 34 ∷ []) scripts fresh (replicate 70 9)) (refuses 19)
    ∷ is (sets (silent_out ∷ plain_out ∷ []) (0 ∷ 1 ∷ 34 ∷ 1 ∷ 35 ∷ 34 ∷ []) scripts fresh (replicate 70 9)) (refuses 19)
    -- an output without script that gets none
    ∷ is (sets (silent_out ∷ []) [] scripts fresh (replicate 70 9)) (refuses 19)
    ∷ is (sets (silent_out ∷ silent_out ∷ []) (0 ∷ 1 ∷ 34 ∷ []) scripts fresh (replicate 70 9)) (refuses 19)
    ∷ is (sets (silent_out ∷ silent_out ∷ []) (1 ∷ 1 ∷ 34 ∷ []) scripts fresh (replicate 70 9)) (refuses 19)
    -- a script of 33 or of 35 bytes, one that begins otherwise
    ∷ is (sets (silent_out ∷ []) (0 ∷ 1 ∷ 33 ∷ []) scripts fresh (replicate 70 9)) (refuses 19)
    ∷ is (sets (silent_out ∷ []) (0 ∷ 1 ∷ 35 ∷ []) scripts fresh (replicate 70 9)) (refuses 19)
    ∷ is (sets (silent_out ∷ []) (0 ∷ 0 ∷ 34 ∷ []) scripts fresh (replicate 70 9)) (refuses 19)
    ∷ is (sets (silent_out ∷ []) (0 ∷ 0 ∷ 0 ∷ []) scripts fresh (replicate 70 9)) (refuses 19)
    -- a script that leaves the buffer, also by one byte behind 34 right ones
    ∷ is (sets (silent_out ∷ []) (0 ∷ 35 ∷ 35 ∷ []) scripts fresh (replicate 70 9)) (refuses 19)
    ∷ is (sets (silent_out ∷ []) (0 ∷ 36 ∷ 34 ∷ []) scripts fresh (replicate 70 9)) (refuses 19)
    ∷ is (sets (silent_out ∷ []) (0 ∷ 0 ∷ 34 ∷ []) [] fresh (replicate 70 9)) (refuses 19)
    -- a list that ends inside a record
    ∷ is (sets (silent_out ∷ []) (0 ∷ 1 ∷ 34 ∷ 0 ∷ []) scripts fresh (replicate 70 9)) (refuses 19)
    ∷ is (sets (plain_out ∷ []) (0 ∷ 1 ∷ []) scripts fresh (replicate 70 9)) (refuses 19)
    ∷ []

-- so each is refused, and nothing is set
pub each_cause_of_19 : Hold causes
unfolding sets causes
each_cause_of_19 = refl

-- 24 before 19, and 19 before 25; room for whole entries alone
unfoldable pub order_of_refusals : List (Row ToldOut)
order_of_refusals =
    -- an unfit map, whichever it is: before a state that forbids, a cut list, a table without room
    is (told_set_out (set_scripts (views (hides BadIndex ∷ silent_out ∷ [])) (reporting None 0 1) (flat (0 ∷ 1 ∷ 34 ∷ [])) scripts fresh (replicate 70 9)))
    (refuses 24)
    ∷ is (told_set_out (set_scripts (views (shows [] ∷ hides BadIndex ∷ silent_out ∷ [])) (reporting None 1 1)
    (flat (0 ∷ 1 ∷ 34 ∷ [])) scripts fresh (replicate 70 9))) (refuses 24)
    ∷ is (sets (silent_out ∷ hides BadIndex ∷ []) (0 ∷ 1 ∷ 34 ∷ []) scripts fresh (replicate 70 9)) (refuses 24)
    ∷ is (sets (hides BadIndex ∷ []) [] [] (record { set = true; written = true }) (replicate 70 9)) (refuses 24)
    ∷ is (sets (hides BadIndex ∷ []) (0 ∷ []) [] fresh (replicate 70 9)) (refuses 24)
    ∷ is (sets (hides BadIndex ∷ []) [] [] fresh []) (told_left (told 24 []) [])
    -- a wrong assignment, a state or a cut list before a table without room
    ∷ is (sets (silent_out ∷ []) [] scripts fresh []) (told_left (told 19 []) [])
    ∷ is (sets (silent_out ∷ []) (0 ∷ 1 ∷ 34 ∷ []) scripts (record { set = true; written = false }) []) (told_left (told 19 []) [])
    ∷ is (sets (silent_out ∷ []) (0 ∷ 1 ∷ []) scripts fresh []) (told_left (told 19 []) [])
    -- one byte short of an entry an output
    ∷ is (sets (silent_out ∷ []) (0 ∷ 1 ∷ 34 ∷ []) scripts fresh (replicate 34 9)) (told_left (told 25 []) (replicate 34 9))
    ∷ is (sets (silent_out ∷ plain_out ∷ []) (0 ∷ 1 ∷ 34 ∷ []) scripts fresh (replicate 69 9)) (told_left (told 25 []) (replicate 69 9))
    ∷ is (sets (plain_out ∷ []) [] [] fresh []) (told_left (told 25 []) [])
    ∷ []

-- so the setter refuses
pub setter_in_order : Hold order_of_refusals
unfolding sets order_of_refusals
setter_in_order = refl
