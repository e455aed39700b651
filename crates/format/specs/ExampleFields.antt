-- Computed examples of every typed field of an input and of an output, and of those of file F.
use Rattle.std.specs.Prelude.{ℕ, ◌+◌, ◌-◌, refl, List, [], ◌∷◌}
use Rattle.format.specs.Rows.{Row, is, Hold}
use Rattle.format.specs.Unfolds.{lookups}
use Rattle.format.specs.Counting.{counting, input_pair, output_pair, at, number, nothing, refused}
use Rattle.format.specs.ExampleFiles.{file_f, pairs_f, maps_f, psbt_f}
use Rattle.format.specs.Tables.{Held, held_input, held_output}
use Rattle.format.specs.Lookups.{list}
use Rattle.format.specs.Fields.{non_witness_utxo, witness_utxo_def, sighash_type, redeem_script, witness_script, final_scriptsig, final_scriptwitness}
use Rattle.format.specs.Fields.{previous_txid, output_index, sequence, required_time_locktime, required_height_locktime, sp_tweak}
use Rattle.format.specs.Fields.{out_redeem_script, out_witness_script, amount, script, sp_v0_info, sp_v0_label}
use Rattle.format.specs.Told.{Told, told_looked, told_numbered, told_listing}
use Rattle.format.specs.Answers.{Looked, Numbered}

-- a field that answers a place
abbrev place_of : (List ℕ → Held → Looked) → Held → Told
place_of field h = told_looked (field counting h)

-- a field that answers a number
abbrev number_of : (List ℕ → Held → Numbered) → Held → Told
number_of field h = told_numbered (field counting h)

-- a field in maps of one pair, whose key is type t and whose value is w bytes from number t on; one byte less, one more, none;
-- where the type has key data; where another type stands; in a map whose number is too great; in a map whose key is empty
abbrev tries : (ℕ → ℕ → ℕ → ℕ → ℕ → Held) → (Held → Told) → ℕ → ℕ → List Told
tries pair field t w =
    field (pair 0 t 1 t w) ∷ field (pair 0 t 1 t (w - 1)) ∷ field (pair 0 t 1 t (w + 1)) ∷ field (pair 0 t 1 t 0)
    ∷ field (pair 0 t 2 t w) ∷ field (pair 0 (t + 1) 1 t w) ∷ field (pair 1 t 1 t w) ∷ field (pair 0 t 0 t w) ∷ []

-- told of a field of one length
abbrev sized : Told → List Told
sized right = right ∷ refused 7 ∷ refused 7 ∷ refused 7 ∷ nothing ∷ nothing ∷ refused 14 ∷ refused 24 ∷ []

-- told of a field of any length
abbrev unsized : ℕ → ℕ → List Told
unsized t w = at t w ∷ at t (w - 1) ∷ at t (w + 1) ∷ at t 0 ∷ nothing ∷ nothing ∷ refused 14 ∷ refused 24 ∷ []

-- the fields of an input
unfoldable pub of_input : List (Row (List Told))
of_input =
    is (tries input_pair (place_of non_witness_utxo) 0x00 40) (unsized 0x00 40)
    ∷ is (tries input_pair (place_of witness_utxo_def) 0x01 40) (unsized 0x01 40)
    ∷ is (tries input_pair (place_of redeem_script) 0x04 40) (unsized 0x04 40)
    ∷ is (tries input_pair (place_of witness_script) 0x05 40) (unsized 0x05 40)
    ∷ is (tries input_pair (place_of final_scriptsig) 0x07 40) (unsized 0x07 40)
    ∷ is (tries input_pair (place_of final_scriptwitness) 0x08 40) (unsized 0x08 40)
    ∷ is (tries input_pair (place_of previous_txid) 0x0e 32) (sized (at 0x0e 32))
    ∷ is (tries input_pair (place_of sp_tweak) 0x20 32) (sized (at 0x20 32))
    ∷ is (tries input_pair (number_of sighash_type) 0x03 4) (sized (number 0x0605_0403))
    ∷ is (tries input_pair (number_of output_index) 0x0f 4) (sized (number 0x1211_100f))
    ∷ is (tries input_pair (number_of sequence) 0x10 4) (sized (number 0x1312_1110))
    ∷ is (tries input_pair (number_of required_time_locktime) 0x11 4) (sized (number 0x1413_1211))
    ∷ is (tries input_pair (number_of required_height_locktime) 0x12 4) (sized (number 0x1514_1312))
    ∷ []

-- so they are told
pub input_fields : Hold of_input
unfolding lookups of_input
input_fields = refl

-- the fields of an output
unfoldable pub of_output : List (Row (List Told))
of_output =
    is (tries output_pair (place_of out_redeem_script) 0x00 40) (unsized 0x00 40)
    ∷ is (tries output_pair (place_of out_witness_script) 0x01 40) (unsized 0x01 40)
    ∷ is (tries output_pair (place_of script) 0x04 40) (unsized 0x04 40)
    ∷ is (tries output_pair (place_of sp_v0_info) 0x09 66) (sized (at 0x09 66))
    ∷ is (tries output_pair (number_of amount) 0x03 8) (sized (number 0x0a09_0807_0605_0403))
    ∷ is (tries output_pair (number_of sp_v0_label) 0x0a 4) (sized (number 0x0d0c_0b0a))
    ∷ []

-- so they are told
pub output_fields : Hold of_output
unfolding lookups of_output
output_fields = refl

-- input and output number i of file F, with the tables that its parse leaves
abbrev input_f : ℕ → Held
input_f i = held_input file_f pairs_f maps_f psbt_f i

-- output number i of file F
abbrev output_f : ℕ → Held
output_f i = held_output file_f pairs_f maps_f psbt_f i

-- fields of F, and listings of its maps
unfoldable pub of_f : List (Row Told)
of_f =
    is (told_looked (previous_txid file_f (input_f 0))) (at 31 32)
    ∷ is (told_numbered (output_index file_f (input_f 0))) (number 0)
    ∷ is (told_numbered (sequence file_f (input_f 0))) nothing
    ∷ is (told_numbered (required_height_locktime file_f (input_f 0))) nothing
    ∷ is (told_looked (witness_utxo_def file_f (input_f 0))) nothing
    ∷ is (told_numbered (output_index file_f (input_f 1))) (refused 14)
    ∷ is (told_numbered (amount file_f (output_f 0))) (number 1000)
    ∷ is (told_looked (script file_f (output_f 0))) (at 85 1)
    ∷ is (told_looked (sp_v0_info file_f (output_f 0))) nothing
    ∷ is (told_looked (script file_f (output_f 1))) (refused 14)
    ∷ is (told_listing (list file_f 0x0f (input_f 0))) (at 1 1)
    ∷ is (told_listing (list file_f 0x10 (input_f 0))) (at 2 0)
    ∷ is (told_listing (list file_f 0x03 (output_f 0))) (at 0 1)
    ∷ is (told_listing (list file_f 0x00 (output_f 0))) (at 0 0)
    ∷ []

-- so they are told
pub fields_of_f : Hold of_f
unfolding lookups of_f
fields_of_f = refl
