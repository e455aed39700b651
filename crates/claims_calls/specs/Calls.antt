-- What two files with their tables answer alike: every lookup and listing of the door, lock, setter and transaction.
use Rattle.std.specs.Prelude.{ℕ, ◌≡◌, Bool, true, List, [], length}
use Rattle.format.specs.Keys.{key_of}
use Rattle.format.specs.Rules.{GLOBAL, INPUT, OUTPUT, listed}
use Rattle.format.specs.Content.{Pair, Content, maps_of}
use Rattle.format.specs.Parse.{out, parsed}
use Rattle.format.specs.Tables.{Held, held, held_input, held_output, View, view_of, view}
use Rattle.format.specs.Lookups.{Length, asked, look, part, list}
use Rattle.format.specs.Fields.{number_field, non_witness_utxo, witness_utxo_def, sighash_type, redeem_script, witness_script, final_scriptsig}
use Rattle.format.specs.Fields.{final_scriptwitness, previous_txid, output_index, sequence, required_time_locktime, required_height_locktime, sp_tweak}
use Rattle.format.specs.Fields.{out_redeem_script, out_witness_script, amount, script, sp_v0_info, sp_v0_label, global_share, global_proof, input_share}
use Rattle.format.specs.Fields.{input_proof, pub_nonce, partial_sig, input_participants, output_participants, participant_count, participant}
use Rattle.format.specs.Fields.{get_witness_utxo, utxo_part}
use Rattle.format.specs.Scripts.{Given, set_scripts}
use Rattle.format.specs.Transaction.{unsigned_tx_def, lock_decided, output_script_def, script_part}
use Rattle.format.specs.declared.Psbt.{Psbt}
use Rattle.format.specs.declared.State.{State}
use Rattle.format.specs.Answers.{Looked}
use Rattle.format.specs.declared.Parsed.TheVariants.{Accepted}
use Rattle.claims_reading.specs.Shown.{pairs_in, pair_table, map_table}
use Rattle.claims_calls.specs.Answers.{Answer, answer_at, utxo_at, script_at, list_at, nth_of_listing}
use Rattle.claims_calls.specs.Newer.{listed_in, asks, report_of}

-- parsed into tables P and M, the file f is accepted, and the report and the tables are those of the content c
abbrev pub ParsesTo : List ℕ → List ℕ → List ℕ → Content → Type 0
ParsesTo f P M c = parsed f P M ≡ out (Accepted (report_of c) (pairs_in (maps_of c)) (length (maps_of c))) (pair_table c P) (map_table c M)

-- a lookup's answer without places
abbrev pub bytes_by : (List ℕ → Held → Looked) → List ℕ → Held → Answer (List ℕ)
bytes_by call f h = answer_at f (call f h)

-- the pairs that the listing of type t names
abbrev pub pairs_by : ℕ → List ℕ → Held → View
pairs_by t f h = list_at f (list f t h) h

-- pair number j of those: the key and the value that `nth`, `nth_key` and `nth_value` hand out
abbrev pub nth_by : ℕ → ℕ → List ℕ → Held → Answer Pair
nth_by t j f h = nth_of_listing f j (list f t h) h

-- the file f with tables P and M and the report s, and the file g with tables Q and N and the report u
module _ (f P M : List ℕ) (s : Psbt) (g Q N : List ℕ) (u : Psbt) where
  -- a call on map number m answers the same of both
  abbrev pub OfMap : {A : Type 0} → ℕ → (List ℕ → Held → A) → Type 0
  OfMap m call = call f (held f P M s m) ≡ call g (held g Q N u m)

  -- a call on an input, by its number
  abbrev pub OfInput : {A : Type 0} → (List ℕ → Held → A) → Type 0
  OfInput call = (i : ℕ) → call f (held_input f P M s i) ≡ call g (held_input g Q N u i)

  -- a call on an output, by its number
  abbrev pub OfOutput : {A : Type 0} → (List ℕ → Held → A) → Type 0
  OfOutput call = (i : ℕ) → call f (held_output f P M s i) ≡ call g (held_output g Q N u i)

  -- every call answers the same of both, where a map's kind is by ks. A field with the name of a call of the door is about that call; p, a, l are
  -- participant, aggregate and leaf hash, n a participant's number or the output's own. A pair's number in its map counts pairs of unlisted types
  -- too, so `nth`, `nth_key` and `nth_value` agree on the pairs that a listing names, and not by that number.
  pub record SameCalls (ks : List ℕ) : Type 0 where
    pub report : s ≡ u
    -- what answers without places agree on, the parts that they name agree on
    pub part_of : (y z : Looked) → answer_at f y ≡ answer_at g z → part f y ≡ part g z
    -- the pairs of listed types that the global map, an input and an output show
    pub global_shows : OfMap 0 (λ x h. listed_in GLOBAL (view_of x h))
    pub input_shows : OfInput (λ x h. listed_in INPUT (view_of x h))
    pub output_shows : OfOutput (λ x h. listed_in OUTPUT (view_of x h))
    -- of any key and any type that is listed
    pub lookups : (m : ℕ) (key : List ℕ) → asks m ks key ≡ true → (ok : Bool) (l : Length) → OfMap m (bytes_by (λ x h. asked ok l x key h))
    pub input_lookups : (key : List ℕ) → listed INPUT key ≡ true → (ok : Bool) (l : Length) → OfInput (bytes_by (λ x h. asked ok l x key h))
    pub output_lookups : (key : List ℕ) → listed OUTPUT key ≡ true → (ok : Bool) (l : Length) → OfOutput (bytes_by (λ x h. asked ok l x key h))
    pub input_numbers : (t w : ℕ) → listed INPUT (key_of t []) ≡ true → OfInput (number_field t w)
    pub output_numbers : (t w : ℕ) → listed OUTPUT (key_of t []) ≡ true → OfOutput (number_field t w)
    pub map_get : (m t : ℕ) (d : List ℕ) → asks m ks (key_of t d) ≡ true → OfMap m (bytes_by (λ x h. look x t d h))
    pub map_get_part : (m t : ℕ) (d : List ℕ) → asks m ks (key_of t d) ≡ true → OfMap m (λ x h. part x (look x t d h))
    pub map_list : (m t : ℕ) → asks m ks (key_of t []) ≡ true → OfMap m (pairs_by t)
    pub map_nth : (m t j : ℕ) → asks m ks (key_of t []) ≡ true → OfMap m (nth_by t j)
    pub input_iter_keys : (t : ℕ) → listed INPUT (key_of t []) ≡ true → OfInput (pairs_by t)
    pub output_iter_keys : (t : ℕ) → listed OUTPUT (key_of t []) ≡ true → OfOutput (pairs_by t)
    -- of the global map
    pub global_get_sp_ecdh_share : (scan : List ℕ) → OfMap 0 (bytes_by (λ x h. global_share x scan h))
    pub global_get_sp_dleq_proof : (scan : List ℕ) → OfMap 0 (bytes_by (λ x h. global_proof x scan h))
    pub global_sp_ecdh_shares : OfMap 0 (pairs_by 0x07)
    pub global_sp_dleq_proofs : OfMap 0 (pairs_by 0x08)
    -- of an input
    pub input_non_witness_utxo : OfInput (bytes_by non_witness_utxo)
    pub input_witness_utxo : OfInput (bytes_by witness_utxo_def)
    pub input_sighash_type : OfInput sighash_type
    pub input_redeem_script : OfInput (bytes_by redeem_script)
    pub input_witness_script : OfInput (bytes_by witness_script)
    pub input_final_scriptsig : OfInput (bytes_by final_scriptsig)
    pub input_final_scriptwitness : OfInput (bytes_by final_scriptwitness)
    pub input_previous_txid : OfInput (bytes_by previous_txid)
    pub input_output_index : OfInput output_index
    pub input_sequence : OfInput sequence
    pub input_required_time_locktime : OfInput required_time_locktime
    pub input_required_height_locktime : OfInput required_height_locktime
    pub input_sp_tweak : OfInput (bytes_by sp_tweak)
    pub input_bip32_derivations : OfInput (pairs_by 0x06)
    pub input_get_sp_ecdh_share : (scan : List ℕ) → OfInput (bytes_by (λ x h. input_share x scan h))
    pub input_get_sp_dleq_proof : (scan : List ℕ) → OfInput (bytes_by (λ x h. input_proof x scan h))
    pub input_sp_ecdh_shares : OfInput (pairs_by 0x1d)
    pub input_sp_dleq_proofs : OfInput (pairs_by 0x1e)
    pub input_sp_spend_bip32_derivations : OfInput (pairs_by 0x1f)
    pub input_get_musig2_pub_nonce : (p a l : List ℕ) → OfInput (bytes_by (λ x h. pub_nonce x p a l h))
    pub input_get_musig2_partial_sig : (p a l : List ℕ) → OfInput (bytes_by (λ x h. partial_sig x p a l h))
    pub input_get_musig2_participant_pubkeys : (a l : List ℕ) → OfInput (bytes_by (λ x h. input_participants x a l h))
    pub input_get_musig2_participant_count : (a l : List ℕ) → OfInput (λ x h. participant_count (input_participants x a l h))
    pub input_get_musig2_participant : (a l : List ℕ) (n : ℕ) → OfInput (bytes_by (λ x h. participant n (input_participants x a l h)))
    pub input_get_witness_utxo : OfInput (λ x h. utxo_at x (get_witness_utxo x h))
    pub input_get_witness_utxo_script : OfInput (λ x h. utxo_part x (get_witness_utxo x h))
    -- of an output
    pub output_redeem_script : OfOutput (bytes_by out_redeem_script)
    pub output_witness_script : OfOutput (bytes_by out_witness_script)
    pub output_amount : OfOutput amount
    pub output_script_lem : OfOutput (bytes_by script)
    pub output_sp_v0_info : OfOutput (bytes_by sp_v0_info)
    pub output_sp_v0_label : OfOutput sp_v0_label
    pub output_bip32_derivations : OfOutput (pairs_by 0x02)
    pub output_get_musig2_participant_pubkeys : (a : List ℕ) → OfOutput (bytes_by (λ x h. output_participants x a h))
    pub output_get_musig2_participant_count : (a : List ℕ) → OfOutput (λ x h. participant_count (output_participants x a h))
    pub output_get_musig2_participant : (a : List ℕ) (n : ℕ) → OfOutput (bytes_by (λ x h. participant n (output_participants x a h)))
    pub output_output_script : (t : State) (T : List ℕ) (n : ℕ) → OfOutput (λ x h. script_at x (output_script_def x t T n h))
    pub output_output_script_part : (t : State) (T : List ℕ) (n : ℕ) → OfOutput (λ x h. script_part x T (output_script_def x t T n h))
    -- of the whole file
    pub lock_decided_lem : lock_decided (view f P M s) s ≡ lock_decided (view g Q N u) u
    pub set_sp_output_scripts : (a : Given) (buffer : List ℕ) (t : State) (T : List ℕ)
        → set_scripts (view f P M s) s a buffer t T ≡ set_scripts (view g Q N u) u a buffer t T
    pub unsigned_tx_lem : (t : State) (T B : List ℕ) → unsigned_tx_def (view f P M s) s t T B ≡ unsigned_tx_def (view g Q N u) u t T B
