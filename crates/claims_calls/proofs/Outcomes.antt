-- One outcome per call: any two outcomes that meet the promise of a public call agree.
-- Written by `.ci/outcomes --write` from the sources of the calls, and held to them by the gate: r is the answer, a name with an index the lent
-- memory of that name as it is left.
use Prim.Native.Nat.{ℕ}
use mathlib.Core.Path.{◌≡◌}
use mathlib.Core.List.{List}
use Rattle.claims_calls.proofs.Ones.{one_listing, one_lock, one_looked, one_nth, one_numbered, one_parsed, one_part, one_script, one_set, one_tx, one_utxo}
use Rattle.format.specs.Answers.{Decided, Listing, Looked, Nth, Numbered, OutputScript, ScriptsSet, UnsignedTx, Utxo}
use Rattle.format.specs.Fields.{amount, final_scriptsig, final_scriptwitness, get_witness_utxo, global_proof, global_share, input_participants, input_proof}
use Rattle.format.specs.Fields.{input_share, non_witness_utxo, out_redeem_script, out_witness_script, output_index, output_participants, partial_sig}
use Rattle.format.specs.Fields.{participant, participant_count, previous_txid, pub_nonce, redeem_script, required_height_locktime, required_time_locktime}
use Rattle.format.specs.Fields.{script, sequence, sighash_type, sp_tweak, sp_v0_info, sp_v0_label, utxo_part, witness_script, witness_utxo_def}
use Rattle.format.specs.Lookups.{key_part, list, look, nth, part, value_part}
use Rattle.format.specs.Outcomes.{One, OneWith, OneWithBoth}
use Rattle.format.specs.Parse.{parsed}
use Rattle.format.specs.Scripts.{flat, set_scripts, whole}
use Rattle.format.specs.Tables.{held, held_input, held_output, view}
use Rattle.format.specs.Told.{told_left, told_listing, told_lock, told_looked, told_nth, told_numbered, told_parse, told_parsed, told_script, told_set}
use Rattle.format.specs.Told.{told_set_out, told_tx, told_tx_out, told_utxo, told_with}
use Rattle.format.specs.Transaction.{lock_decided, output_script_def, script_part, unsigned_tx_def}
use Rattle.format.specs.declared.Assignment.{Assignment}
use Rattle.format.specs.declared.Parsed.{Parsed}
use Rattle.format.specs.declared.Psbt.{Psbt}
use Rattle.format.specs.declared.State.{State}

-- crates/fastpsbt/src/lib.rt
pub one_outcome_parse : (file pairs maps : List ℕ)
    → OneWithBoth (λ (r : Parsed) pairs₁ maps₁. told_with (told_parsed r) pairs₁ maps₁ ≡ told_parse (parsed file pairs maps))
one_outcome_parse file pairs maps = one_parsed _

pub one_outcome_part_of : (file : List ℕ) (looked : Looked)
    → One (λ (r : List ℕ). r ≡ part file looked)
one_outcome_part_of file looked = one_part _

pub one_outcome_lock_decided : (file pairs maps : List ℕ) (psbt : Psbt)
    → One (λ (r : Decided). told_lock r ≡ told_lock (lock_decided (view file pairs maps psbt) psbt))
one_outcome_lock_decided file pairs maps psbt = one_lock _

pub one_outcome_set_sp_output_scripts : (file pairs maps : List ℕ) (psbt : Psbt) (list buffer : List ℕ) (state : State) (scripts : List ℕ)
    → OneWith (λ (r : ScriptsSet) scripts₁. told_left (told_set r) scripts₁
    ≡ told_set_out (set_scripts (view file pairs maps psbt) psbt (flat list) buffer state scripts))
one_outcome_set_sp_output_scripts file pairs maps psbt list buffer state scripts = one_set _

pub one_outcome_unsigned_tx : (file pairs maps : List ℕ) (psbt : Psbt) (state : State) (scripts out : List ℕ)
    → OneWith (λ (r : UnsignedTx) out₁. told_left (told_tx r) out₁ ≡ told_tx_out (unsigned_tx_def (view file pairs maps psbt) psbt state scripts out))
one_outcome_unsigned_tx file pairs maps psbt state scripts out = one_tx _

-- crates/fastpsbt/src/global.rt
pub one_outcome_global_get_sp_ecdh_share : (file pairs maps : List ℕ) (psbt : Psbt) (scan_key : List ℕ)
    → One (λ (r : Looked). told_looked r ≡ told_looked (global_share file scan_key (held file pairs maps psbt 0)))
one_outcome_global_get_sp_ecdh_share file pairs maps psbt scan_key = one_looked _

pub one_outcome_global_get_sp_dleq_proof : (file pairs maps : List ℕ) (psbt : Psbt) (scan_key : List ℕ)
    → One (λ (r : Looked). told_looked r ≡ told_looked (global_proof file scan_key (held file pairs maps psbt 0)))
one_outcome_global_get_sp_dleq_proof file pairs maps psbt scan_key = one_looked _

pub one_outcome_global_sp_ecdh_shares : (file pairs maps : List ℕ) (psbt : Psbt)
    → One (λ (r : Listing). told_listing r ≡ told_listing (list file 0x07 (held file pairs maps psbt 0)))
one_outcome_global_sp_ecdh_shares file pairs maps psbt = one_listing _

pub one_outcome_global_sp_dleq_proofs : (file pairs maps : List ℕ) (psbt : Psbt)
    → One (λ (r : Listing). told_listing r ≡ told_listing (list file 0x08 (held file pairs maps psbt 0)))
one_outcome_global_sp_dleq_proofs file pairs maps psbt = one_listing _

-- crates/fastpsbt/src/input.rt
pub one_outcome_input_non_witness_utxo : (file pairs maps : List ℕ) (psbt : Psbt) (i : ℕ)
    → One (λ (r : Looked). told_looked r ≡ told_looked (non_witness_utxo file (held_input file pairs maps psbt i)))
one_outcome_input_non_witness_utxo file pairs maps psbt i = one_looked _

pub one_outcome_input_witness_utxo : (file pairs maps : List ℕ) (psbt : Psbt) (i : ℕ)
    → One (λ (r : Looked). told_looked r ≡ told_looked (witness_utxo_def file (held_input file pairs maps psbt i)))
one_outcome_input_witness_utxo file pairs maps psbt i = one_looked _

pub one_outcome_input_sighash_type : (file pairs maps : List ℕ) (psbt : Psbt) (i : ℕ)
    → One (λ (r : Numbered). told_numbered r ≡ told_numbered (sighash_type file (held_input file pairs maps psbt i)))
one_outcome_input_sighash_type file pairs maps psbt i = one_numbered _

pub one_outcome_input_redeem_script : (file pairs maps : List ℕ) (psbt : Psbt) (i : ℕ)
    → One (λ (r : Looked). told_looked r ≡ told_looked (redeem_script file (held_input file pairs maps psbt i)))
one_outcome_input_redeem_script file pairs maps psbt i = one_looked _

pub one_outcome_input_witness_script : (file pairs maps : List ℕ) (psbt : Psbt) (i : ℕ)
    → One (λ (r : Looked). told_looked r ≡ told_looked (witness_script file (held_input file pairs maps psbt i)))
one_outcome_input_witness_script file pairs maps psbt i = one_looked _

pub one_outcome_input_final_scriptsig : (file pairs maps : List ℕ) (psbt : Psbt) (i : ℕ)
    → One (λ (r : Looked). told_looked r ≡ told_looked (final_scriptsig file (held_input file pairs maps psbt i)))
one_outcome_input_final_scriptsig file pairs maps psbt i = one_looked _

pub one_outcome_input_final_scriptwitness : (file pairs maps : List ℕ) (psbt : Psbt) (i : ℕ)
    → One (λ (r : Looked). told_looked r ≡ told_looked (final_scriptwitness file (held_input file pairs maps psbt i)))
one_outcome_input_final_scriptwitness file pairs maps psbt i = one_looked _

pub one_outcome_input_previous_txid : (file pairs maps : List ℕ) (psbt : Psbt) (i : ℕ)
    → One (λ (r : Looked). told_looked r ≡ told_looked (previous_txid file (held_input file pairs maps psbt i)))
one_outcome_input_previous_txid file pairs maps psbt i = one_looked _

pub one_outcome_input_output_index : (file pairs maps : List ℕ) (psbt : Psbt) (i : ℕ)
    → One (λ (r : Numbered). told_numbered r ≡ told_numbered (output_index file (held_input file pairs maps psbt i)))
one_outcome_input_output_index file pairs maps psbt i = one_numbered _

pub one_outcome_input_sequence : (file pairs maps : List ℕ) (psbt : Psbt) (i : ℕ)
    → One (λ (r : Numbered). told_numbered r ≡ told_numbered (sequence file (held_input file pairs maps psbt i)))
one_outcome_input_sequence file pairs maps psbt i = one_numbered _

pub one_outcome_input_required_time_locktime : (file pairs maps : List ℕ) (psbt : Psbt) (i : ℕ)
    → One (λ (r : Numbered). told_numbered r ≡ told_numbered (required_time_locktime file (held_input file pairs maps psbt i)))
one_outcome_input_required_time_locktime file pairs maps psbt i = one_numbered _

pub one_outcome_input_required_height_locktime : (file pairs maps : List ℕ) (psbt : Psbt) (i : ℕ)
    → One (λ (r : Numbered). told_numbered r ≡ told_numbered (required_height_locktime file (held_input file pairs maps psbt i)))
one_outcome_input_required_height_locktime file pairs maps psbt i = one_numbered _

pub one_outcome_input_sp_tweak : (file pairs maps : List ℕ) (psbt : Psbt) (i : ℕ)
    → One (λ (r : Looked). told_looked r ≡ told_looked (sp_tweak file (held_input file pairs maps psbt i)))
one_outcome_input_sp_tweak file pairs maps psbt i = one_looked _

pub one_outcome_input_iter_keys : (file pairs maps : List ℕ) (psbt : Psbt) (i key_type : ℕ)
    → One (λ (r : Listing). told_listing r ≡ told_listing (list file key_type (held_input file pairs maps psbt i)))
one_outcome_input_iter_keys file pairs maps psbt i key_type = one_listing _

pub one_outcome_input_bip32_derivations : (file pairs maps : List ℕ) (psbt : Psbt) (i : ℕ)
    → One (λ (r : Listing). told_listing r ≡ told_listing (list file 0x06 (held_input file pairs maps psbt i)))
one_outcome_input_bip32_derivations file pairs maps psbt i = one_listing _

pub one_outcome_input_get_sp_ecdh_share : (file pairs maps : List ℕ) (psbt : Psbt) (i : ℕ) (scan_key : List ℕ)
    → One (λ (r : Looked). told_looked r ≡ told_looked (input_share file scan_key (held_input file pairs maps psbt i)))
one_outcome_input_get_sp_ecdh_share file pairs maps psbt i scan_key = one_looked _

pub one_outcome_input_get_sp_dleq_proof : (file pairs maps : List ℕ) (psbt : Psbt) (i : ℕ) (scan_key : List ℕ)
    → One (λ (r : Looked). told_looked r ≡ told_looked (input_proof file scan_key (held_input file pairs maps psbt i)))
one_outcome_input_get_sp_dleq_proof file pairs maps psbt i scan_key = one_looked _

pub one_outcome_input_sp_ecdh_shares : (file pairs maps : List ℕ) (psbt : Psbt) (i : ℕ)
    → One (λ (r : Listing). told_listing r ≡ told_listing (list file 0x1d (held_input file pairs maps psbt i)))
one_outcome_input_sp_ecdh_shares file pairs maps psbt i = one_listing _

pub one_outcome_input_sp_dleq_proofs : (file pairs maps : List ℕ) (psbt : Psbt) (i : ℕ)
    → One (λ (r : Listing). told_listing r ≡ told_listing (list file 0x1e (held_input file pairs maps psbt i)))
one_outcome_input_sp_dleq_proofs file pairs maps psbt i = one_listing _

pub one_outcome_input_sp_spend_bip32_derivations : (file pairs maps : List ℕ) (psbt : Psbt) (i : ℕ)
    → One (λ (r : Listing). told_listing r ≡ told_listing (list file 0x1f (held_input file pairs maps psbt i)))
one_outcome_input_sp_spend_bip32_derivations file pairs maps psbt i = one_listing _

pub one_outcome_input_get_musig2_pub_nonce : (file pairs maps : List ℕ) (psbt : Psbt) (i : ℕ) (participant aggregate leaf : List ℕ)
    → One (λ (r : Looked). told_looked r ≡ told_looked (pub_nonce file participant aggregate leaf (held_input file pairs maps psbt i)))
one_outcome_input_get_musig2_pub_nonce file pairs maps psbt i participant aggregate leaf = one_looked _

pub one_outcome_input_get_musig2_partial_sig : (file pairs maps : List ℕ) (psbt : Psbt) (i : ℕ) (participant aggregate leaf : List ℕ)
    → One (λ (r : Looked). told_looked r ≡ told_looked (partial_sig file participant aggregate leaf (held_input file pairs maps psbt i)))
one_outcome_input_get_musig2_partial_sig file pairs maps psbt i participant aggregate leaf = one_looked _

pub one_outcome_input_get_musig2_participant_pubkeys : (file pairs maps : List ℕ) (psbt : Psbt) (i : ℕ) (aggregate leaf : List ℕ)
    → One (λ (r : Looked). told_looked r ≡ told_looked (input_participants file aggregate leaf (held_input file pairs maps psbt i)))
one_outcome_input_get_musig2_participant_pubkeys file pairs maps psbt i aggregate leaf = one_looked _

pub one_outcome_input_get_musig2_participant_count : (file pairs maps : List ℕ) (psbt : Psbt) (i : ℕ) (aggregate leaf : List ℕ)
    → One (λ (r : Numbered). told_numbered r
    ≡ told_numbered (participant_count (input_participants file aggregate leaf (held_input file pairs maps psbt i))))
one_outcome_input_get_musig2_participant_count file pairs maps psbt i aggregate leaf = one_numbered _

pub one_outcome_input_get_musig2_participant : (file pairs maps : List ℕ) (psbt : Psbt) (i : ℕ) (aggregate leaf : List ℕ) (n : ℕ)
    → One (λ (r : Looked). told_looked r ≡ told_looked (participant n (input_participants file aggregate leaf (held_input file pairs maps psbt i))))
one_outcome_input_get_musig2_participant file pairs maps psbt i aggregate leaf n = one_looked _

pub one_outcome_input_get_witness_utxo : (file pairs maps : List ℕ) (psbt : Psbt) (i : ℕ)
    → One (λ (r : Utxo). told_utxo r ≡ told_utxo (get_witness_utxo file (held_input file pairs maps psbt i)))
one_outcome_input_get_witness_utxo file pairs maps psbt i = one_utxo _

pub one_outcome_input_get_witness_utxo_script : (file pairs maps : List ℕ) (psbt : Psbt) (i : ℕ)
    → One (λ (r : List ℕ). r ≡ utxo_part file (get_witness_utxo file (held_input file pairs maps psbt i)))
one_outcome_input_get_witness_utxo_script file pairs maps psbt i = one_part _

-- crates/fastpsbt/src/map.rt
pub one_outcome_map_get : (file pairs maps : List ℕ) (psbt : Psbt) (m key_type : ℕ) (key_data : List ℕ)
    → One (λ (r : Looked). told_looked r ≡ told_looked (look file key_type key_data (held file pairs maps psbt m)))
one_outcome_map_get file pairs maps psbt m key_type key_data = one_looked _

pub one_outcome_map_get_part : (file pairs maps : List ℕ) (psbt : Psbt) (m key_type : ℕ) (key_data : List ℕ)
    → One (λ (r : List ℕ). r ≡ part file (look file key_type key_data (held file pairs maps psbt m)))
one_outcome_map_get_part file pairs maps psbt m key_type key_data = one_part _

pub one_outcome_map_list : (file pairs maps : List ℕ) (psbt : Psbt) (m key_type : ℕ)
    → One (λ (r : Listing). told_listing r ≡ told_listing (list file key_type (held file pairs maps psbt m)))
one_outcome_map_list file pairs maps psbt m key_type = one_listing _

pub one_outcome_map_nth : (file pairs maps : List ℕ) (psbt : Psbt) (m i : ℕ)
    → One (λ (r : Nth). told_nth r ≡ told_nth (nth i (held file pairs maps psbt m)))
one_outcome_map_nth file pairs maps psbt m i = one_nth _

pub one_outcome_map_nth_key : (file pairs maps : List ℕ) (psbt : Psbt) (m i : ℕ)
    → One (λ (r : List ℕ). r ≡ key_part file (nth i (held file pairs maps psbt m)))
one_outcome_map_nth_key file pairs maps psbt m i = one_part _

pub one_outcome_map_nth_value : (file pairs maps : List ℕ) (psbt : Psbt) (m i : ℕ)
    → One (λ (r : List ℕ). r ≡ value_part file (nth i (held file pairs maps psbt m)))
one_outcome_map_nth_value file pairs maps psbt m i = one_part _

-- crates/fastpsbt/src/output.rt
pub one_outcome_output_redeem_script : (file pairs maps : List ℕ) (psbt : Psbt) (i : ℕ)
    → One (λ (r : Looked). told_looked r ≡ told_looked (out_redeem_script file (held_output file pairs maps psbt i)))
one_outcome_output_redeem_script file pairs maps psbt i = one_looked _

pub one_outcome_output_witness_script : (file pairs maps : List ℕ) (psbt : Psbt) (i : ℕ)
    → One (λ (r : Looked). told_looked r ≡ told_looked (out_witness_script file (held_output file pairs maps psbt i)))
one_outcome_output_witness_script file pairs maps psbt i = one_looked _

pub one_outcome_output_amount : (file pairs maps : List ℕ) (psbt : Psbt) (i : ℕ)
    → One (λ (r : Numbered). told_numbered r ≡ told_numbered (amount file (held_output file pairs maps psbt i)))
one_outcome_output_amount file pairs maps psbt i = one_numbered _

pub one_outcome_output_script : (file pairs maps : List ℕ) (psbt : Psbt) (i : ℕ)
    → One (λ (r : Looked). told_looked r ≡ told_looked (script file (held_output file pairs maps psbt i)))
one_outcome_output_script file pairs maps psbt i = one_looked _

pub one_outcome_output_sp_v0_info : (file pairs maps : List ℕ) (psbt : Psbt) (i : ℕ)
    → One (λ (r : Looked). told_looked r ≡ told_looked (sp_v0_info file (held_output file pairs maps psbt i)))
one_outcome_output_sp_v0_info file pairs maps psbt i = one_looked _

pub one_outcome_output_sp_v0_label : (file pairs maps : List ℕ) (psbt : Psbt) (i : ℕ)
    → One (λ (r : Numbered). told_numbered r ≡ told_numbered (sp_v0_label file (held_output file pairs maps psbt i)))
one_outcome_output_sp_v0_label file pairs maps psbt i = one_numbered _

pub one_outcome_output_iter_keys : (file pairs maps : List ℕ) (psbt : Psbt) (i key_type : ℕ)
    → One (λ (r : Listing). told_listing r ≡ told_listing (list file key_type (held_output file pairs maps psbt i)))
one_outcome_output_iter_keys file pairs maps psbt i key_type = one_listing _

pub one_outcome_output_bip32_derivations : (file pairs maps : List ℕ) (psbt : Psbt) (i : ℕ)
    → One (λ (r : Listing). told_listing r ≡ told_listing (list file 0x02 (held_output file pairs maps psbt i)))
one_outcome_output_bip32_derivations file pairs maps psbt i = one_listing _

pub one_outcome_output_get_musig2_participant_pubkeys : (file pairs maps : List ℕ) (psbt : Psbt) (i : ℕ) (aggregate : List ℕ)
    → One (λ (r : Looked). told_looked r ≡ told_looked (output_participants file aggregate (held_output file pairs maps psbt i)))
one_outcome_output_get_musig2_participant_pubkeys file pairs maps psbt i aggregate = one_looked _

pub one_outcome_output_get_musig2_participant_count : (file pairs maps : List ℕ) (psbt : Psbt) (i : ℕ) (aggregate : List ℕ)
    → One (λ (r : Numbered). told_numbered r ≡ told_numbered (participant_count (output_participants file aggregate (held_output file pairs maps psbt i))))
one_outcome_output_get_musig2_participant_count file pairs maps psbt i aggregate = one_numbered _

pub one_outcome_output_get_musig2_participant : (file pairs maps : List ℕ) (psbt : Psbt) (i : ℕ) (aggregate : List ℕ) (n : ℕ)
    → One (λ (r : Looked). told_looked r ≡ told_looked (participant n (output_participants file aggregate (held_output file pairs maps psbt i))))
one_outcome_output_get_musig2_participant file pairs maps psbt i aggregate n = one_looked _

pub one_outcome_output_output_script : (file pairs maps : List ℕ) (psbt : Psbt) (state : State) (scripts : List ℕ) (i : ℕ)
    → One (λ (r : OutputScript). told_script r ≡ told_script (output_script_def file state scripts i (held_output file pairs maps psbt i)))
one_outcome_output_output_script file pairs maps psbt state scripts i = one_script _

pub one_outcome_output_output_script_part : (file pairs maps : List ℕ) (psbt : Psbt) (state : State) (scripts : List ℕ) (i : ℕ)
    → One (λ (r : List ℕ). r ≡ script_part file scripts (output_script_def file state scripts i (held_output file pairs maps psbt i)))
one_outcome_output_output_script_part file pairs maps psbt state scripts i = one_part _

-- crates/struct_setter/src/lib.rt
pub one_outcome_struct_setter_set_sp_output_scripts :
    (file pairs maps : List ℕ) (psbt : Psbt) (list : List Assignment) (buffer : List ℕ) (state : State) (scripts : List ℕ)
    → OneWith (λ (r : ScriptsSet) scripts₁. told_left (told_set r) scripts₁
    ≡ told_set_out (set_scripts (view file pairs maps psbt) psbt (whole list) buffer state scripts))
one_outcome_struct_setter_set_sp_output_scripts file pairs maps psbt list buffer state scripts = one_set _

pub one_outcome_struct_setter_set_two :
    (file pairs maps : List ℕ) (psbt : Psbt) (list : List Assignment) (buffer : List ℕ) (state : State) (scripts : List ℕ)
    → OneWith (λ (r : ScriptsSet) scripts₁. told_left (told_set r) scripts₁
    ≡ told_set_out (set_scripts (view file pairs maps psbt) psbt (whole list) buffer state scripts))
one_outcome_struct_setter_set_two file pairs maps psbt list buffer state scripts = one_set _
