-- Typed fields, silent payments, MuSig2, witness UTXO.
use Rattle.std.specs.Prelude.{ℕ, ◌+◌, ◌*◌, ◌/◌, Bool, true, ◌&&◌, ◌||◌, List, [], ◌++◌, length, take, drop, get_or, leb, ltb, eqb, Ok, Err, Some, None}
use Rattle.format.specs.Tests.{pick}
use Rattle.format.specs.Numbers.{le}
use Rattle.format.specs.Keys.{key_of}
use Rattle.format.specs.Tables.{Held}
use Rattle.format.specs.Lookups.{Length, any_length, exactly, key_list, asked, number_at}
use Rattle.format.specs.declared.PsbtError.TheVariants.{BadValue, OutOfRange}
use Rattle.format.specs.Answers.{part_at, utxo_with, Looked, Numbered, Utxo}

-- the field of a type without key data: its place, or its number of w bytes
unfoldable pub part_field_def : ℕ → Length → List ℕ → Held → Looked
part_field_def t l f h = asked true l f (key_of t []) h

-- the number of w bytes of a type without key data
unfoldable pub number_field : ℕ → ℕ → List ℕ → Held → Numbered
number_field t w f h = number_at f (part_field_def t (exactly w) f h)

-- fields of an input
unfoldable pub non_witness_utxo : List ℕ → Held → Looked
non_witness_utxo f h = part_field_def 0x00 any_length f h

-- 01, any length
unfoldable pub witness_utxo_def : List ℕ → Held → Looked
witness_utxo_def f h = part_field_def 0x01 any_length f h

-- 03, a number of 4 bytes
unfoldable pub sighash_type : List ℕ → Held → Numbered
sighash_type f h = number_field 0x03 4 f h

-- 04, any length
unfoldable pub redeem_script : List ℕ → Held → Looked
redeem_script f h = part_field_def 0x04 any_length f h

-- 05, any length
unfoldable pub witness_script : List ℕ → Held → Looked
witness_script f h = part_field_def 0x05 any_length f h

-- 07, any length
unfoldable pub final_scriptsig : List ℕ → Held → Looked
final_scriptsig f h = part_field_def 0x07 any_length f h

-- 08, any length
unfoldable pub final_scriptwitness : List ℕ → Held → Looked
final_scriptwitness f h = part_field_def 0x08 any_length f h

-- 0e, 32 bytes
unfoldable pub previous_txid : List ℕ → Held → Looked
previous_txid f h = part_field_def 0x0e (exactly 32) f h

-- 0f, a number of 4 bytes
unfoldable pub output_index : List ℕ → Held → Numbered
output_index f h = number_field 0x0f 4 f h

-- 10, a number of 4 bytes
unfoldable pub sequence : List ℕ → Held → Numbered
sequence f h = number_field 0x10 4 f h

-- 11, a number of 4 bytes
unfoldable pub required_time_locktime : List ℕ → Held → Numbered
required_time_locktime f h = number_field 0x11 4 f h

-- 12, a number of 4 bytes
unfoldable pub required_height_locktime : List ℕ → Held → Numbered
required_height_locktime f h = number_field 0x12 4 f h

-- 20, 32 bytes
unfoldable pub sp_tweak : List ℕ → Held → Looked
sp_tweak f h = part_field_def 0x20 (exactly 32) f h

-- fields of an output
unfoldable pub out_redeem_script : List ℕ → Held → Looked
out_redeem_script f h = part_field_def 0x00 any_length f h

-- 01, any length
unfoldable pub out_witness_script : List ℕ → Held → Looked
out_witness_script f h = part_field_def 0x01 any_length f h

-- 03, a number of 8 bytes
unfoldable pub amount : List ℕ → Held → Numbered
amount f h = number_field 0x03 8 f h

-- 04, any length
unfoldable pub script : List ℕ → Held → Looked
script f h = part_field_def 0x04 any_length f h

-- 09, 66 bytes
unfoldable pub sp_v0_info : List ℕ → Held → Looked
sp_v0_info f h = part_field_def 0x09 (exactly 66) f h

-- 0a, a number of 4 bytes
unfoldable pub sp_v0_label : List ℕ → Held → Numbered
sp_v0_label f h = number_field 0x0a 4 f h

-- a silent payment lookup asks a scan key of 33 bytes: a share has 33 bytes, a proof 64
unfoldable pub scan_lookup : ℕ → ℕ → List ℕ → List ℕ → Held → Looked
scan_lookup t w f scan h = asked (eqb (length scan) 33) (exactly w) f (key_of t scan) h

-- the global share, 07
unfoldable pub global_share : List ℕ → List ℕ → Held → Looked
global_share f scan h = scan_lookup 0x07 33 f scan h

-- the global proof, 08
unfoldable pub global_proof : List ℕ → List ℕ → Held → Looked
global_proof f scan h = scan_lookup 0x08 64 f scan h

-- an input's share, 1d
unfoldable pub input_share : List ℕ → List ℕ → Held → Looked
input_share f scan h = scan_lookup 0x1d 33 f scan h

-- an input's proof, 1e
unfoldable pub input_proof : List ℕ → List ℕ → Held → Looked
input_proof f scan h = scan_lookup 0x1e 64 f scan h

-- a leaf hash has 32 bytes or is left out
unfoldable pub leaf_fits : List ℕ → Bool
leaf_fits leaf = eqb (length leaf) 0 || eqb (length leaf) 32

-- a MuSig2 lookup asks participant, aggregate and perhaps leaf hash: a nonce has 66 bytes, a partial signature 32
unfoldable pub musig_lookup : ℕ → ℕ → List ℕ → List ℕ → List ℕ → List ℕ → Held → Looked
musig_lookup t w f participant aggregate leaf h =
    asked (eqb (length participant) 33 && (eqb (length aggregate) 33 && leaf_fits leaf)) (exactly w) f
    (key_of t (participant ++ (aggregate ++ leaf))) h

-- a public nonce, 1b
unfoldable pub pub_nonce : List ℕ → List ℕ → List ℕ → List ℕ → Held → Looked
pub_nonce f participant aggregate leaf h = musig_lookup 0x1b 66 f participant aggregate leaf h

-- a partial signature, 1c
unfoldable pub partial_sig : List ℕ → List ℕ → List ℕ → List ℕ → Held → Looked
partial_sig f participant aggregate leaf h = musig_lookup 0x1c 32 f participant aggregate leaf h

-- a participant list: of an input by aggregate and perhaps leaf hash, of an output by aggregate
unfoldable pub input_participants : List ℕ → List ℕ → List ℕ → Held → Looked
input_participants f aggregate leaf h = asked (eqb (length aggregate) 33 && leaf_fits leaf) key_list f (key_of 0x1a (aggregate ++ leaf)) h

-- a participant list of an output
unfoldable pub output_participants : List ℕ → List ℕ → Held → Looked
output_participants f aggregate h = asked (eqb (length aggregate) 33) key_list f (key_of 0x08 aggregate) h

-- how many participants a list has
unfoldable pub participant_count : Looked → Numbered
participant_count (Err e) = Err e
participant_count (Ok None) = Ok None
participant_count (Ok (Some p)) = Ok (Some (p.len / 33))

-- participant number i of a list: 14 past its end
unfoldable pub participant : ℕ → Looked → Looked
participant i (Err e) = Err e
participant i (Ok None) = Ok None
participant i (Ok (Some p)) = pick (ltb i (p.len / 33)) (Ok (Some (part_at (p.start + 33 * i) 33))) (Err OutOfRange)

-- a witness UTXO at s with bytes v: 8 of amount, one of length up to fc, exactly so many of script
unfoldable pub utxo_of : ℕ → List ℕ → Utxo
utxo_of s v =
    pick (leb 9 (length v) && (leb (get_or v 8 0) 0xfc && eqb (length v) (9 + get_or v 8 0)))
    (Ok (Some (utxo_with (le (take 8 v)) (s + 9) (get_or v 8 0))))
    (Err BadValue)

-- a witness UTXO where a lookup found one
unfoldable pub utxo_by : List ℕ → Looked → Utxo
utxo_by f (Err e) = Err e
utxo_by f (Ok None) = Ok None
utxo_by f (Ok (Some p)) = utxo_of p.start (take p.len (drop p.start f))

-- the witness UTXO of an input, 01
unfoldable pub get_witness_utxo : List ℕ → Held → Utxo
get_witness_utxo f h = utxo_by f (witness_utxo_def f h)

-- the part of the file that is its script: empty for absence and refusal
unfoldable pub utxo_part : List ℕ → Utxo → List ℕ
utxo_part f (Err e) = []
utxo_part f (Ok None) = []
utxo_part f (Ok (Some u)) = take u.len (drop u.start f)
