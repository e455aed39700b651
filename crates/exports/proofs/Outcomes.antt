-- One outcome per exported call: any two outcomes that meet its promise agree, in number, answer and lent memory.
-- Written by `.ci/outcomes --write` from the sources of the calls, and held to them by the gate: r is the answer, a name with an index the lent
-- memory of that name as it is left.
use Prim.Native.Nat.{ℕ}
use mathlib.Core.Path.{◌≡◌}
use mathlib.Core.List.{List}
use Rattle.export_words.specs.Words.{asked, asked_in_def, exported, leaves, leaves_both, out_export, parse_export}
use Rattle.exports.proofs.Ones.{one_asked, one_out, one_parse}
use Rattle.format.specs.Fields.{amount, final_scriptsig, final_scriptwitness, get_witness_utxo, global_proof, global_share, input_participants, input_proof}
use Rattle.format.specs.Fields.{input_share, non_witness_utxo, out_redeem_script, out_witness_script, output_index, output_participants, partial_sig}
use Rattle.format.specs.Fields.{participant, participant_count, previous_txid, pub_nonce, redeem_script, required_height_locktime, required_time_locktime}
use Rattle.format.specs.Fields.{script, sequence, sighash_type, sp_tweak, sp_v0_info, sp_v0_label, witness_script, witness_utxo_def}
use Rattle.format.specs.Lookups.{list, look, nth}
use Rattle.format.specs.Outcomes.{OneWith, OneWithBoth, OneWithThree}
use Rattle.format.specs.Parse.{parsed}
use Rattle.format.specs.Scripts.{flat, set_scripts}
use Rattle.format.specs.Tables.{held, held_input, held_output, view}
use Rattle.format.specs.Told.{told_listing, told_lock, told_looked, told_nth, told_numbered, told_parse, told_script, told_set_out, told_tx_out, told_utxo}
use Rattle.format.specs.Transaction.{lock_decided, output_script_def, unsigned_tx_def}

-- crates/exports/src/lib.rt
pub one_outcome_fastpsbt_parse : (file pairs maps answer : List ℕ)
    → OneWithThree (λ (r : ℕ) pairs₁ maps₁ answer₁. leaves_both (exported r answer₁) pairs₁ maps₁
    ≡ parse_export answer pairs maps (told_parse (parsed file pairs maps)))
one_outcome_fastpsbt_parse file pairs maps answer = one_parse _

pub one_outcome_fastpsbt_lock_decided : (file pairs maps report answer : List ℕ)
    → OneWith (λ (r : ℕ) answer₁. exported r answer₁ ≡ asked report answer (λ s. told_lock (lock_decided (view file pairs maps s) s)))
one_outcome_fastpsbt_lock_decided file pairs maps report answer = one_asked _

pub one_outcome_fastpsbt_set_sp_output_scripts : (file pairs maps report list buffer : List ℕ) (set written : ℕ) (scripts answer : List ℕ)
    → OneWithBoth (λ (r : ℕ) scripts₁ answer₁. leaves (exported r answer₁) scripts₁
    ≡ out_export set written report answer scripts (λ t s. told_set_out (set_scripts (view file pairs maps s) s (flat list) buffer t scripts)))
one_outcome_fastpsbt_set_sp_output_scripts file pairs maps report list buffer set written scripts answer = one_out _

pub one_outcome_fastpsbt_unsigned_tx : (file pairs maps report : List ℕ) (set written : ℕ) (scripts out answer : List ℕ)
    → OneWithBoth (λ (r : ℕ) out₁ answer₁. leaves (exported r answer₁) out₁
    ≡ out_export set written report answer out (λ t s. told_tx_out (unsigned_tx_def (view file pairs maps s) s t scripts out)))
one_outcome_fastpsbt_unsigned_tx file pairs maps report set written scripts out answer = one_out _

pub one_outcome_fastpsbt_map_get : (file pairs maps report : List ℕ) (m key_type : ℕ) (key_data answer : List ℕ)
    → OneWith (λ (r : ℕ) answer₁. exported r answer₁
    ≡ asked report answer (λ s. told_looked (look file key_type key_data (held file pairs maps s m))))
one_outcome_fastpsbt_map_get file pairs maps report m key_type key_data answer = one_asked _

pub one_outcome_fastpsbt_map_list : (file pairs maps report : List ℕ) (m key_type : ℕ) (answer : List ℕ)
    → OneWith (λ (r : ℕ) answer₁. exported r answer₁ ≡ asked report answer (λ s. told_listing (list file key_type (held file pairs maps s m))))
one_outcome_fastpsbt_map_list file pairs maps report m key_type answer = one_asked _

pub one_outcome_fastpsbt_map_nth : (file pairs maps report : List ℕ) (m i : ℕ) (answer : List ℕ)
    → OneWith (λ (r : ℕ) answer₁. exported r answer₁ ≡ asked report answer (λ s. told_nth (nth i (held file pairs maps s m))))
one_outcome_fastpsbt_map_nth file pairs maps report m i answer = one_asked _

pub one_outcome_fastpsbt_global_get_sp_ecdh_share : (file pairs maps report scan_key answer : List ℕ)
    → OneWith (λ (r : ℕ) answer₁. exported r answer₁
    ≡ asked report answer (λ s. told_looked (global_share file scan_key (held file pairs maps s 0))))
one_outcome_fastpsbt_global_get_sp_ecdh_share file pairs maps report scan_key answer = one_asked _

pub one_outcome_fastpsbt_global_get_sp_dleq_proof : (file pairs maps report scan_key answer : List ℕ)
    → OneWith (λ (r : ℕ) answer₁. exported r answer₁
    ≡ asked report answer (λ s. told_looked (global_proof file scan_key (held file pairs maps s 0))))
one_outcome_fastpsbt_global_get_sp_dleq_proof file pairs maps report scan_key answer = one_asked _

pub one_outcome_fastpsbt_global_sp_ecdh_shares : (file pairs maps report answer : List ℕ)
    → OneWith (λ (r : ℕ) answer₁. exported r answer₁ ≡ asked report answer (λ s. told_listing (list file 0x07 (held file pairs maps s 0))))
one_outcome_fastpsbt_global_sp_ecdh_shares file pairs maps report answer = one_asked _

pub one_outcome_fastpsbt_global_sp_dleq_proofs : (file pairs maps report answer : List ℕ)
    → OneWith (λ (r : ℕ) answer₁. exported r answer₁ ≡ asked report answer (λ s. told_listing (list file 0x08 (held file pairs maps s 0))))
one_outcome_fastpsbt_global_sp_dleq_proofs file pairs maps report answer = one_asked _

pub one_outcome_fastpsbt_input_non_witness_utxo : (file pairs maps report : List ℕ) (i : ℕ) (answer : List ℕ)
    → OneWith (λ (r : ℕ) answer₁. exported r answer₁
    ≡ asked report answer (λ s. told_looked (non_witness_utxo file (held_input file pairs maps s i))))
one_outcome_fastpsbt_input_non_witness_utxo file pairs maps report i answer = one_asked _

pub one_outcome_fastpsbt_input_witness_utxo : (file pairs maps report : List ℕ) (i : ℕ) (answer : List ℕ)
    → OneWith (λ (r : ℕ) answer₁. exported r answer₁
    ≡ asked report answer (λ s. told_looked (witness_utxo_def file (held_input file pairs maps s i))))
one_outcome_fastpsbt_input_witness_utxo file pairs maps report i answer = one_asked _

pub one_outcome_fastpsbt_input_sighash_type : (file pairs maps report : List ℕ) (i : ℕ) (answer : List ℕ)
    → OneWith (λ (r : ℕ) answer₁. exported r answer₁
    ≡ asked report answer (λ s. told_numbered (sighash_type file (held_input file pairs maps s i))))
one_outcome_fastpsbt_input_sighash_type file pairs maps report i answer = one_asked _

pub one_outcome_fastpsbt_input_redeem_script : (file pairs maps report : List ℕ) (i : ℕ) (answer : List ℕ)
    → OneWith (λ (r : ℕ) answer₁. exported r answer₁ ≡ asked report answer (λ s. told_looked (redeem_script file (held_input file pairs maps s i))))
one_outcome_fastpsbt_input_redeem_script file pairs maps report i answer = one_asked _

pub one_outcome_fastpsbt_input_witness_script : (file pairs maps report : List ℕ) (i : ℕ) (answer : List ℕ)
    → OneWith (λ (r : ℕ) answer₁. exported r answer₁
    ≡ asked report answer (λ s. told_looked (witness_script file (held_input file pairs maps s i))))
one_outcome_fastpsbt_input_witness_script file pairs maps report i answer = one_asked _

pub one_outcome_fastpsbt_input_final_scriptsig : (file pairs maps report : List ℕ) (i : ℕ) (answer : List ℕ)
    → OneWith (λ (r : ℕ) answer₁. exported r answer₁
    ≡ asked report answer (λ s. told_looked (final_scriptsig file (held_input file pairs maps s i))))
one_outcome_fastpsbt_input_final_scriptsig file pairs maps report i answer = one_asked _

pub one_outcome_fastpsbt_input_final_scriptwitness : (file pairs maps report : List ℕ) (i : ℕ) (answer : List ℕ)
    → OneWith (λ (r : ℕ) answer₁. exported r answer₁
    ≡ asked report answer (λ s. told_looked (final_scriptwitness file (held_input file pairs maps s i))))
one_outcome_fastpsbt_input_final_scriptwitness file pairs maps report i answer = one_asked _

pub one_outcome_fastpsbt_input_previous_txid : (file pairs maps report : List ℕ) (i : ℕ) (answer : List ℕ)
    → OneWith (λ (r : ℕ) answer₁. exported r answer₁ ≡ asked report answer (λ s. told_looked (previous_txid file (held_input file pairs maps s i))))
one_outcome_fastpsbt_input_previous_txid file pairs maps report i answer = one_asked _

pub one_outcome_fastpsbt_input_output_index : (file pairs maps report : List ℕ) (i : ℕ) (answer : List ℕ)
    → OneWith (λ (r : ℕ) answer₁. exported r answer₁
    ≡ asked report answer (λ s. told_numbered (output_index file (held_input file pairs maps s i))))
one_outcome_fastpsbt_input_output_index file pairs maps report i answer = one_asked _

pub one_outcome_fastpsbt_input_sequence : (file pairs maps report : List ℕ) (i : ℕ) (answer : List ℕ)
    → OneWith (λ (r : ℕ) answer₁. exported r answer₁ ≡ asked report answer (λ s. told_numbered (sequence file (held_input file pairs maps s i))))
one_outcome_fastpsbt_input_sequence file pairs maps report i answer = one_asked _

pub one_outcome_fastpsbt_input_required_time_locktime : (file pairs maps report : List ℕ) (i : ℕ) (answer : List ℕ)
    → OneWith (λ (r : ℕ) answer₁. exported r answer₁
    ≡ asked report answer (λ s. told_numbered (required_time_locktime file (held_input file pairs maps s i))))
one_outcome_fastpsbt_input_required_time_locktime file pairs maps report i answer = one_asked _

pub one_outcome_fastpsbt_input_required_height_locktime : (file pairs maps report : List ℕ) (i : ℕ) (answer : List ℕ)
    → OneWith (λ (r : ℕ) answer₁. exported r answer₁
    ≡ asked report answer (λ s. told_numbered (required_height_locktime file (held_input file pairs maps s i))))
one_outcome_fastpsbt_input_required_height_locktime file pairs maps report i answer = one_asked _

pub one_outcome_fastpsbt_input_sp_tweak : (file pairs maps report : List ℕ) (i : ℕ) (answer : List ℕ)
    → OneWith (λ (r : ℕ) answer₁. exported r answer₁ ≡ asked report answer (λ s. told_looked (sp_tweak file (held_input file pairs maps s i))))
one_outcome_fastpsbt_input_sp_tweak file pairs maps report i answer = one_asked _

pub one_outcome_fastpsbt_input_iter_keys : (file pairs maps report : List ℕ) (i key_type : ℕ) (answer : List ℕ)
    → OneWith (λ (r : ℕ) answer₁. exported r answer₁
    ≡ asked report answer (λ s. told_listing (list file key_type (held_input file pairs maps s i))))
one_outcome_fastpsbt_input_iter_keys file pairs maps report i key_type answer = one_asked _

pub one_outcome_fastpsbt_input_bip32_derivations : (file pairs maps report : List ℕ) (i : ℕ) (answer : List ℕ)
    → OneWith (λ (r : ℕ) answer₁. exported r answer₁ ≡ asked report answer (λ s. told_listing (list file 0x06 (held_input file pairs maps s i))))
one_outcome_fastpsbt_input_bip32_derivations file pairs maps report i answer = one_asked _

pub one_outcome_fastpsbt_input_get_sp_ecdh_share : (file pairs maps report : List ℕ) (i : ℕ) (scan_key answer : List ℕ)
    → OneWith (λ (r : ℕ) answer₁. exported r answer₁
    ≡ asked report answer (λ s. told_looked (input_share file scan_key (held_input file pairs maps s i))))
one_outcome_fastpsbt_input_get_sp_ecdh_share file pairs maps report i scan_key answer = one_asked _

pub one_outcome_fastpsbt_input_get_sp_dleq_proof : (file pairs maps report : List ℕ) (i : ℕ) (scan_key answer : List ℕ)
    → OneWith (λ (r : ℕ) answer₁. exported r answer₁
    ≡ asked report answer (λ s. told_looked (input_proof file scan_key (held_input file pairs maps s i))))
one_outcome_fastpsbt_input_get_sp_dleq_proof file pairs maps report i scan_key answer = one_asked _

pub one_outcome_fastpsbt_input_sp_ecdh_shares : (file pairs maps report : List ℕ) (i : ℕ) (answer : List ℕ)
    → OneWith (λ (r : ℕ) answer₁. exported r answer₁ ≡ asked report answer (λ s. told_listing (list file 0x1d (held_input file pairs maps s i))))
one_outcome_fastpsbt_input_sp_ecdh_shares file pairs maps report i answer = one_asked _

pub one_outcome_fastpsbt_input_sp_dleq_proofs : (file pairs maps report : List ℕ) (i : ℕ) (answer : List ℕ)
    → OneWith (λ (r : ℕ) answer₁. exported r answer₁ ≡ asked report answer (λ s. told_listing (list file 0x1e (held_input file pairs maps s i))))
one_outcome_fastpsbt_input_sp_dleq_proofs file pairs maps report i answer = one_asked _

pub one_outcome_fastpsbt_input_sp_spend_bip32_derivations : (file pairs maps report : List ℕ) (i : ℕ) (answer : List ℕ)
    → OneWith (λ (r : ℕ) answer₁. exported r answer₁ ≡ asked report answer (λ s. told_listing (list file 0x1f (held_input file pairs maps s i))))
one_outcome_fastpsbt_input_sp_spend_bip32_derivations file pairs maps report i answer = one_asked _

pub one_outcome_fastpsbt_input_get_musig2_pub_nonce : (file pairs maps report : List ℕ) (i : ℕ) (participant aggregate leaf answer : List ℕ)
    → OneWith (λ (r : ℕ) answer₁. exported r answer₁
    ≡ asked report answer (λ s. told_looked (pub_nonce file participant aggregate leaf (held_input file pairs maps s i))))
one_outcome_fastpsbt_input_get_musig2_pub_nonce file pairs maps report i participant aggregate leaf answer = one_asked _

pub one_outcome_fastpsbt_input_get_musig2_partial_sig : (file pairs maps report : List ℕ) (i : ℕ) (participant aggregate leaf answer : List ℕ)
    → OneWith (λ (r : ℕ) answer₁. exported r answer₁
    ≡ asked report answer (λ s. told_looked (partial_sig file participant aggregate leaf (held_input file pairs maps s i))))
one_outcome_fastpsbt_input_get_musig2_partial_sig file pairs maps report i participant aggregate leaf answer = one_asked _

pub one_outcome_fastpsbt_input_get_musig2_participant_pubkeys : (file pairs maps report : List ℕ) (i : ℕ) (aggregate leaf answer : List ℕ)
    → OneWith (λ (r : ℕ) answer₁. exported r answer₁
    ≡ asked report answer (λ s. told_looked (input_participants file aggregate leaf (held_input file pairs maps s i))))
one_outcome_fastpsbt_input_get_musig2_participant_pubkeys file pairs maps report i aggregate leaf answer = one_asked _

pub one_outcome_fastpsbt_input_get_musig2_participant_count : (file pairs maps report : List ℕ) (i : ℕ) (aggregate leaf answer : List ℕ)
    → OneWith (λ (r : ℕ) answer₁. exported r answer₁
    ≡ asked report answer (λ s. told_numbered (participant_count (input_participants file aggregate leaf (held_input file pairs maps s i)))))
one_outcome_fastpsbt_input_get_musig2_participant_count file pairs maps report i aggregate leaf answer = one_asked _

pub one_outcome_fastpsbt_input_get_musig2_participant :
    (file pairs maps report : List ℕ) (i : ℕ) (aggregate leaf : List ℕ) (n : ℕ) (answer : List ℕ)
    → OneWith (λ (r : ℕ) answer₁. exported r answer₁
    ≡ asked report answer (λ s. told_looked (participant n (input_participants file aggregate leaf (held_input file pairs maps s i)))))
one_outcome_fastpsbt_input_get_musig2_participant file pairs maps report i aggregate leaf n answer = one_asked _

pub one_outcome_fastpsbt_input_get_witness_utxo : (file pairs maps report : List ℕ) (i : ℕ) (answer : List ℕ)
    → OneWith (λ (r : ℕ) answer₁. exported r answer₁
    ≡ asked report answer (λ s. told_utxo (get_witness_utxo file (held_input file pairs maps s i))))
one_outcome_fastpsbt_input_get_witness_utxo file pairs maps report i answer = one_asked _

pub one_outcome_fastpsbt_output_redeem_script : (file pairs maps report : List ℕ) (i : ℕ) (answer : List ℕ)
    → OneWith (λ (r : ℕ) answer₁. exported r answer₁
    ≡ asked report answer (λ s. told_looked (out_redeem_script file (held_output file pairs maps s i))))
one_outcome_fastpsbt_output_redeem_script file pairs maps report i answer = one_asked _

pub one_outcome_fastpsbt_output_witness_script : (file pairs maps report : List ℕ) (i : ℕ) (answer : List ℕ)
    → OneWith (λ (r : ℕ) answer₁. exported r answer₁
    ≡ asked report answer (λ s. told_looked (out_witness_script file (held_output file pairs maps s i))))
one_outcome_fastpsbt_output_witness_script file pairs maps report i answer = one_asked _

pub one_outcome_fastpsbt_output_amount : (file pairs maps report : List ℕ) (i : ℕ) (answer : List ℕ)
    → OneWith (λ (r : ℕ) answer₁. exported r answer₁ ≡ asked report answer (λ s. told_numbered (amount file (held_output file pairs maps s i))))
one_outcome_fastpsbt_output_amount file pairs maps report i answer = one_asked _

pub one_outcome_fastpsbt_output_script : (file pairs maps report : List ℕ) (i : ℕ) (answer : List ℕ)
    → OneWith (λ (r : ℕ) answer₁. exported r answer₁ ≡ asked report answer (λ s. told_looked (script file (held_output file pairs maps s i))))
one_outcome_fastpsbt_output_script file pairs maps report i answer = one_asked _

pub one_outcome_fastpsbt_output_sp_v0_info : (file pairs maps report : List ℕ) (i : ℕ) (answer : List ℕ)
    → OneWith (λ (r : ℕ) answer₁. exported r answer₁ ≡ asked report answer (λ s. told_looked (sp_v0_info file (held_output file pairs maps s i))))
one_outcome_fastpsbt_output_sp_v0_info file pairs maps report i answer = one_asked _

pub one_outcome_fastpsbt_output_sp_v0_label : (file pairs maps report : List ℕ) (i : ℕ) (answer : List ℕ)
    → OneWith (λ (r : ℕ) answer₁. exported r answer₁
    ≡ asked report answer (λ s. told_numbered (sp_v0_label file (held_output file pairs maps s i))))
one_outcome_fastpsbt_output_sp_v0_label file pairs maps report i answer = one_asked _

pub one_outcome_fastpsbt_output_iter_keys : (file pairs maps report : List ℕ) (i key_type : ℕ) (answer : List ℕ)
    → OneWith (λ (r : ℕ) answer₁. exported r answer₁
    ≡ asked report answer (λ s. told_listing (list file key_type (held_output file pairs maps s i))))
one_outcome_fastpsbt_output_iter_keys file pairs maps report i key_type answer = one_asked _

pub one_outcome_fastpsbt_output_bip32_derivations : (file pairs maps report : List ℕ) (i : ℕ) (answer : List ℕ)
    → OneWith (λ (r : ℕ) answer₁. exported r answer₁ ≡ asked report answer (λ s. told_listing (list file 0x02 (held_output file pairs maps s i))))
one_outcome_fastpsbt_output_bip32_derivations file pairs maps report i answer = one_asked _

pub one_outcome_fastpsbt_output_get_musig2_participant_pubkeys : (file pairs maps report : List ℕ) (i : ℕ) (aggregate answer : List ℕ)
    → OneWith (λ (r : ℕ) answer₁. exported r answer₁
    ≡ asked report answer (λ s. told_looked (output_participants file aggregate (held_output file pairs maps s i))))
one_outcome_fastpsbt_output_get_musig2_participant_pubkeys file pairs maps report i aggregate answer = one_asked _

pub one_outcome_fastpsbt_output_get_musig2_participant_count : (file pairs maps report : List ℕ) (i : ℕ) (aggregate answer : List ℕ)
    → OneWith (λ (r : ℕ) answer₁. exported r answer₁
    ≡ asked report answer (λ s. told_numbered (participant_count (output_participants file aggregate (held_output file pairs maps s i)))))
one_outcome_fastpsbt_output_get_musig2_participant_count file pairs maps report i aggregate answer = one_asked _

pub one_outcome_fastpsbt_output_get_musig2_participant : (file pairs maps report : List ℕ) (i : ℕ) (aggregate : List ℕ) (n : ℕ) (answer : List ℕ)
    → OneWith (λ (r : ℕ) answer₁. exported r answer₁
    ≡ asked report answer (λ s. told_looked (participant n (output_participants file aggregate (held_output file pairs maps s i)))))
one_outcome_fastpsbt_output_get_musig2_participant file pairs maps report i aggregate n answer = one_asked _

pub one_outcome_fastpsbt_output_output_script : (file pairs maps report : List ℕ) (set written : ℕ) (scripts : List ℕ) (i : ℕ) (answer : List ℕ)
    → OneWith (λ (r : ℕ) answer₁. exported r answer₁
    ≡ asked_in_def set written report answer (λ t s. told_script (output_script_def file t scripts i (held_output file pairs maps s i))))
one_outcome_fastpsbt_output_output_script file pairs maps report set written scripts i answer = one_asked _
