-- Calls on the tables of two files with alike contents answer alike.
use mathlib.Core.Path.{◌≡◌, refl, sym, ◌∙◌, ap, ap₂}
use mathlib.Core.List.{List, [], ◌∷◌, ◌++◌, map}
use mathlib.Core.Bool.{Bool, true, false}
use Prim.Native.Nat.{ℕ, suc, ◌+◌, ◌≤◌}
use native.Mathlib.Omega.{arith}
use lib.ListN.{length, take, drop, length-append, length-map}
use Rattle.format.specs.Tests.{keep_if, only}
use Rattle.format.specs.Keys.{type_of, key_of}
use Rattle.format.specs.Rules.{GLOBAL, INPUT, OUTPUT, span, within, listed_types, listed}
use Rattle.format.specs.Content.{Pair, Map, Content, maps_of, bytes, field, psbt_of}
use Rattle.format.specs.Reading.{limit, accepted, reading}
use Rattle.format.specs.Tables.{Held, held, held_input, held_output, maps_reported, View, view_of, view, gathered, gather_by, gather}
use Rattle.format.specs.Lookups.{Length, any_length, asked, look}
use Rattle.format.specs.Fields.{part_field_def, non_witness_utxo, witness_utxo_def, sighash_type, redeem_script, witness_script, final_scriptsig}
use Rattle.format.specs.Fields.{final_scriptwitness, previous_txid, output_index, sequence, required_time_locktime, required_height_locktime, sp_tweak}
use Rattle.format.specs.Fields.{out_redeem_script, out_witness_script, amount, script, sp_v0_info, sp_v0_label, scan_lookup, global_share, global_proof}
use Rattle.format.specs.Fields.{input_share, input_proof, musig_lookup, pub_nonce, partial_sig, input_participants, output_participants}
use Rattle.format.specs.Locks.{In, in_of}
use Rattle.format.specs.Scripts.{Out, out_of, Reported, reports, reported_by, reported, set_by, set_scripts}
use Rattle.format.specs.Transaction.{tx_reported, written, unsigned_tx_def, lock_by, lock_decided}
use Rattle.format.specs.declared.Psbt.{Psbt}
use Rattle.claims_reading.specs.Fine.{RisesFile}
use Rattle.claims_reading.specs.Shown.{bare, view_by, pairs_in, pair_table, map_table, Room}
use Rattle.claims_reading.proofs.Files.{reading_is, one_plus_counts}
use Rattle.claims_reading.proofs.Parsed.{parse_is}
use Rattle.claims_reading.proofs.Shown.{view_is}
use Rattle.claims_reading.proofs.Found.{find_bare}
use Rattle.claims_calls.specs.Answers.{look_in_def, count_in, participant_in, utxo_in, script_in, list_in, nth_in_def}
use Rattle.claims_calls.specs.Newer.{AddedFile, strike, strike_map, struck, kinds, asks, report_of, ins_of, outs_of, Alike}
use Rattle.claims_calls.specs.Calls.{ParsesTo, bytes_by, OfMap, SameCalls}
use Rattle.claims_calls.proofs.Shapes.{held_sound, input_sound, output_sound, By, asked_by, count_by, participant_by, part_in_def, part_in}
use Rattle.claims_calls.proofs.Shapes.{part_by, utxo_by_lem, utxo_part_by, bytes_with, script_by_lem, script_part_by, list_by, nth_by_lem}
use Rattle.claims_calls.proofs.Views.{input_shows, output_shows}
use Rattle.claims_calls.proofs.Agree.{Agree, agree_by, call_alike, look_alike, bytes_alike, number_alike, pairs_alike, script_goes}
use Rattle.claims_calls.proofs.Newers.{newer, older}

-- what a transaction takes from a map asks nothing of the spelling
field_bare : (t : ℕ) (ps : List Pair) → field t (map bare ps) ≡ field t ps
unfolding field
field_bare t ps = find_bare (key_of t []) ps

in_bare : (ps : List Pair) → in_of (map bare ps) ≡ in_of ps
unfolding in_of
in_bare ps = rw (field_bare 0x0e ps, field_bare 0x0f ps, field_bare 0x10 ps, field_bare 0x11 ps, field_bare 0x12 ps)

out_bare : (ps : List Pair) → out_of (map bare ps) ≡ out_of ps
unfolding out_of
out_bare ps = rw (field_bare 0x03 ps, field_bare 0x04 ps)

-- all maps, gathered
abbrev pairs_of : Map → List Pair
pairs_of m = map bare m.pairs

gather_is : (v : ℕ → View) (ms : List Map) (i : ℕ) → ((j k : ℕ) → k ≡ i + j → v k ≡ view_by j ms) → gather v i (length ms) ≡ gathered (map pairs_of ms)
unfolding gather gather_by view_by
gather_is v [] i h = refl
gather_is v (m ∷ ms) i h = rw (h 0 i (omega arith), gather_is v ms (i + 1) (λ j k e. h (suc j) k (omega arith)))

ins_are : (ms ns : List Map) → map in_of (take (length ms) (map pairs_of (ms ++ ns))) ≡ map (λ (m : Map). in_of m.pairs) ms
ins_are [] ns = refl
ins_are (m ∷ ms) ns = ap₂ {C = List In} (λ x xs. x ∷ xs) (in_bare m.pairs) (ins_are ms ns)

outs_are : (ms ns : List Map) → map out_of (drop (length ms) (map pairs_of (ms ++ ns))) ≡ map (λ (m : Map). out_of m.pairs) ns
outs_are [] [] = refl
outs_are [] (n ∷ ns) = ap₂ {C = List Out} (λ x xs. x ∷ xs) (out_bare n.pairs) (outs_are [] ns)
outs_are (m ∷ ms) ns = outs_are ms ns

-- an accepted file's tables answer as its content
module _ (f : List ℕ) (c : Content) (P M : List ℕ) (e : reading f ≡ accepted c) where
  ins_count : (report_of c).inputs ≡ length c.ins
  unfolding report_of psbt_of
  ins_count = sym (reading_is f c e).1.ins#

  outs_count : (report_of c).outputs ≡ length c.outs
  unfolding report_of psbt_of
  outs_count = sym (reading_is f c e).1.outs#

  maps_count : maps_reported (report_of c) ≡ length (maps_of c)
  unfolding report_of
  maps_count = sym (one_plus_counts f c e)

  table_shows : (m : ℕ) → view_of f (held f (pair_table c P) (map_table c M) (report_of c) m) ≡ view_by m (maps_of c)
  unfolding report_of view
  table_shows m = view_is f c P M e m

  table_input : (i : ℕ) → view_of f (held_input f (pair_table c P) (map_table c M) (report_of c) i) ≡ view_by i c.ins
  table_input = input_shows f (pair_table c P) (map_table c M) (report_of c) c table_shows ins_count outs_count

  table_output : (i : ℕ) → view_of f (held_output f (pair_table c P) (map_table c M) (report_of c) i) ≡ view_by i c.outs
  table_output = output_shows f (pair_table c P) (map_table c M) (report_of c) c table_shows ins_count outs_count

  table_view : (j k : ℕ) → k ≡ 0 + j → view f (pair_table c P) (map_table c M) (report_of c) k ≡ view_by j (maps_of c)
  unfolding report_of
  table_view j k q = let w : k ≡ j = omega arith in rw w (view_is f c P M e j)

  split : reported_by (length c.ins) (gathered (map pairs_of (maps_of c))) ≡ reports (ins_of c) (outs_of c)
  unfolding reported_by maps_of ins_of outs_of
  split =
      let n : 1 + length c.ins ≡ suc (length c.ins) = omega arith in
      ap₂ reports (ins_are c.ins c.outs) (ap (λ (k : ℕ). map out_of (drop k (map pairs_of (maps_of c)))) n ∙ outs_are c.ins c.outs)

  pub table_reported : reported (view f (pair_table c P) (map_table c M) (report_of c)) (report_of c) ≡ reports (ins_of c) (outs_of c)
  unfolding reported
  table_reported =
      ap₂ (λ (n k : ℕ). reported_by n (gather (view f (pair_table c P) (map_table c M) (report_of c)) 0 k)) ins_count maps_count
      ∙ ap (reported_by (length c.ins)) (gather_is (view f (pair_table c P) (map_table c M) (report_of c)) (maps_of c) 0 table_view)
      ∙ split

-- so where contents are alike, calls are
module _ (f : List ℕ) (c : Content) (P M : List ℕ) (e : reading f ≡ accepted c)
    (g : List ℕ) (d : Content) (Q N : List ℕ) (k : reading g ≡ accepted d) (a : Alike c d) where
  -- maps by their kinds: the global map, input number i, output number i
  global_agree : Agree GLOBAL f (held f (pair_table c P) (map_table c M) (report_of c) 0) g (held g (pair_table d Q) (map_table d N) (report_of d) 0)
  unfolding struck maps_of view_by
  global_agree =
      agree_by GLOBAL (c.global ∷ []) (d.global ∷ []) (ap (λ (x : Content). x.global ∷ []) a.same_listed) 0
      (held_sound f _ _ _ 0) (table_shows f c P M e 0) (held_sound g _ _ _ 0) (table_shows g d Q N k 0)

  input_agree : (i : ℕ)
      → Agree INPUT f (held_input f (pair_table c P) (map_table c M) (report_of c) i) g (held_input g (pair_table d Q) (map_table d N) (report_of d) i)
  unfolding struck
  input_agree i =
      agree_by INPUT c.ins d.ins (ap (λ (x : Content). x.ins) a.same_listed) i
      (input_sound f _ _ _ i) (table_input f c P M e i) (input_sound g _ _ _ i) (table_input g d Q N k i)

  output_agree : (i : ℕ) → Agree OUTPUT f (held_output f (pair_table c P) (map_table c M) (report_of c) i) g
      (held_output g (pair_table d Q) (map_table d N) (report_of d) i)
  unfolding struck
  output_agree i =
      agree_by OUTPUT c.outs d.outs (ap (λ (x : Content). x.outs) a.same_listed) i
      (output_sound f _ _ _ i) (table_output f c P M e i) (output_sound g _ _ _ i) (table_output g d Q N k i)

  -- maps by their numbers
  of_map : {A : Type 0} (call : List ℕ → Held → A) (F : View → A) → By call F → (m : ℕ) → F (view_by m (maps_of c)) ≡ F (view_by m (maps_of d))
      → OfMap f (pair_table c P) (map_table c M) (report_of c) g (pair_table d Q) (map_table d N) (report_of d) m call
  of_map call F is m q =
      is f _ (held_sound f _ _ _ m) ∙ ap F (table_shows f c P M e m) ∙ q ∙ sym (ap F (table_shows g d Q N k m)) ∙ sym (is g _ (held_sound g _ _ _ m))

  map_bytes_lem : (ok : Bool) (l : Length) (key : List ℕ) (m : ℕ) → asks m (kinds c) key ≡ true
      → OfMap f (pair_table c P) (map_table c M) (report_of c) g (pair_table d Q) (map_table d N) (report_of d) m (bytes_by (λ x h. asked ok l x key h))
  map_bytes_lem ok l key m h = of_map _ (look_in_def ok l key) (asked_by ok l key) m (a.same_lookups m key h ok l)

  -- what is a function of the report and of what all maps show
  by_report : {A : Type 0} (F : Psbt → Reported → A) → F (report_of c) (reported (view f (pair_table c P) (map_table c M) (report_of c)) (report_of c))
      ≡ F (report_of d) (reported (view g (pair_table d Q) (map_table d N) (report_of d)) (report_of d))
  by_report F =
      ap (F (report_of c)) (table_reported f c P M e) ∙ (λ j. F (a.same_report j) (reports (a.same_ins j) (a.same_outs j)))
      ∙ sym (ap (F (report_of d)) (table_reported g d Q N k))

  -- every type that a call asks by itself is listed: `refl`
  same_calls : SameCalls f (pair_table c P) (map_table c M) (report_of c) g (pair_table d Q) (map_table d N) (report_of d) (kinds c)
  unfolding lock_decided set_scripts unsigned_tx_def look part_field_def scan_lookup musig_lookup non_witness_utxo witness_utxo_def
      sighash_type redeem_script witness_script final_scriptsig final_scriptwitness previous_txid output_index sequence required_time_locktime
      required_height_locktime sp_tweak out_redeem_script out_witness_script amount script sp_v0_info sp_v0_label global_share global_proof
      input_share input_proof pub_nonce partial_sig input_participants output_participants asks kinds listed type_of key_of within listed_types span
  same_calls = record {
    report = a.same_report;
    part_of = λ y z h. part_in f y ∙ ap (part_in_def (λ v. v)) h ∙ sym (part_in g z);
    global_shows = global_agree.same;
    input_shows = λ i. (input_agree i).same;
    output_shows = λ i. (output_agree i).same;
    lookups = λ m key h ok l. map_bytes_lem ok l key m h;
    input_lookups = λ key h ok l i. bytes_alike (input_agree i) ok l key h;
    output_lookups = λ key h ok l i. bytes_alike (output_agree i) ok l key h;
    input_numbers = λ t w h i. number_alike (input_agree i) t w h;
    output_numbers = λ t w h i. number_alike (output_agree i) t w h;
    map_get = λ m t x h. map_bytes_lem true any_length (key_of t x) m h;
    map_get_part = λ m t x h. of_map _ (λ v. part_in_def (λ y. y) (look_in_def true any_length (key_of t x) v))
        (part_by true any_length (key_of t x)) m (ap (part_in_def (λ y. y)) (a.same_lookups m (key_of t x) h true any_length));
    map_list = λ m t h. of_map _ (list_in t) (list_by t) m (a.same_lists m t h);
    map_nth = λ m t j h. of_map _ (λ v. nth_in_def j (list_in t v)) (nth_by_lem t j) m (ap (nth_in_def j) (a.same_lists m t h));
    input_iter_keys = λ t h i. pairs_alike (input_agree i) t h;
    output_iter_keys = λ t h i. pairs_alike (output_agree i) t h;
    global_get_sp_ecdh_share = λ x. bytes_alike global_agree _ _ _ refl;
    global_get_sp_dleq_proof = λ x. bytes_alike global_agree _ _ _ refl;
    global_sp_ecdh_shares = pairs_alike global_agree _ refl;
    global_sp_dleq_proofs = pairs_alike global_agree _ refl;
    input_non_witness_utxo = λ i. bytes_alike (input_agree i) _ _ _ refl;
    input_witness_utxo = λ i. bytes_alike (input_agree i) _ _ _ refl;
    input_sighash_type = λ i. number_alike (input_agree i) _ _ refl;
    input_redeem_script = λ i. bytes_alike (input_agree i) _ _ _ refl;
    input_witness_script = λ i. bytes_alike (input_agree i) _ _ _ refl;
    input_final_scriptsig = λ i. bytes_alike (input_agree i) _ _ _ refl;
    input_final_scriptwitness = λ i. bytes_alike (input_agree i) _ _ _ refl;
    input_previous_txid = λ i. bytes_alike (input_agree i) _ _ _ refl;
    input_output_index = λ i. number_alike (input_agree i) _ _ refl;
    input_sequence = λ i. number_alike (input_agree i) _ _ refl;
    input_required_time_locktime = λ i. number_alike (input_agree i) _ _ refl;
    input_required_height_locktime = λ i. number_alike (input_agree i) _ _ refl;
    input_sp_tweak = λ i. bytes_alike (input_agree i) _ _ _ refl;
    input_bip32_derivations = λ i. pairs_alike (input_agree i) _ refl;
    input_get_sp_ecdh_share = λ x i. bytes_alike (input_agree i) _ _ _ refl;
    input_get_sp_dleq_proof = λ x i. bytes_alike (input_agree i) _ _ _ refl;
    input_sp_ecdh_shares = λ i. pairs_alike (input_agree i) _ refl;
    input_sp_dleq_proofs = λ i. pairs_alike (input_agree i) _ refl;
    input_sp_spend_bip32_derivations = λ i. pairs_alike (input_agree i) _ refl;
    input_get_musig2_pub_nonce = λ p x l i. bytes_alike (input_agree i) _ _ _ refl;
    input_get_musig2_partial_sig = λ p x l i. bytes_alike (input_agree i) _ _ _ refl;
    input_get_musig2_participant_pubkeys = λ x l i. bytes_alike (input_agree i) _ _ _ refl;
    input_get_musig2_participant_count = λ x l i. look_alike (input_agree i) _ count_in _ _ _ (count_by _ _ _) refl;
    input_get_musig2_participant = λ x l n i. look_alike (input_agree i) _ (participant_in n) _ _ _ (participant_by _ _ _ n) refl;
    input_get_witness_utxo = λ i. look_alike (input_agree i) _ utxo_in _ _ _ utxo_by_lem refl;
    input_get_witness_utxo_script = λ i. look_alike (input_agree i) _ (λ y. part_in_def (λ z. z.1) (utxo_in y)) _ _ _ utxo_part_by refl;
    output_redeem_script = λ i. bytes_alike (output_agree i) _ _ _ refl;
    output_witness_script = λ i. bytes_alike (output_agree i) _ _ _ refl;
    output_amount = λ i. number_alike (output_agree i) _ _ refl;
    output_script_lem = λ i. bytes_alike (output_agree i) _ _ _ refl;
    output_sp_v0_info = λ i. bytes_alike (output_agree i) _ _ _ refl;
    output_sp_v0_label = λ i. number_alike (output_agree i) _ _ refl;
    output_bip32_derivations = λ i. pairs_alike (output_agree i) _ refl;
    output_get_musig2_participant_pubkeys = λ x i. bytes_alike (output_agree i) _ _ _ refl;
    output_get_musig2_participant_count = λ x i. look_alike (output_agree i) _ count_in _ _ _ (count_by _ _ _) refl;
    output_get_musig2_participant = λ x n i. look_alike (output_agree i) _ (participant_in n) _ _ _ (participant_by _ _ _ n) refl;
    output_output_script = λ t T n i. call_alike (output_agree i) _ (script_in t T n) (script_by_lem t T n) (script_goes t T n);
    output_output_script_part = λ t T n i. call_alike (output_agree i) _
        (λ v. part_in_def (bytes_with T) (script_in t T n v)) (script_part_by t T n) (λ ps. ap (part_in_def (bytes_with T)) (script_goes t T n ps));
    lock_decided_lem = by_report lock_by;
    set_sp_output_scripts = λ x buffer t T. by_report (λ s r. set_by buffer t T x r);
    unsigned_tx_lem = λ t T B. by_report (λ s r. written t B (tx_reported s t T r));
  }

-- striking asks no more room
less_pairs : (t : Bool) (p : Pair) (ps qs : List Pair) → length ps ≤ length qs → length (keep_if t p ps) ≤ length (p ∷ qs)
less_pairs true p ps qs h = omega arith
less_pairs false p ps qs h = omega arith

strike_less : (k : ℕ) (ps : List Pair) → length (strike k ps) ≤ length ps
unfolding strike only
strike_less k [] = omega arith
strike_less k (p ∷ ps) = less_pairs (listed k p.key) p (strike k ps) ps (strike_less k ps)

maps_less : (k : ℕ) (ms ns ns' : List Map) → pairs_in ns' ≤ pairs_in ns → pairs_in (map (strike_map k) ms ++ ns') ≤ pairs_in (ms ++ ns)
unfolding pairs_in strike_map
maps_less k [] ns ns' h = h
maps_less k (m ∷ ms) ns ns' h = omega (arith, strike_less k m.pairs, maps_less k ms ns ns' h)

outs_less : (ms : List Map) → pairs_in (map (strike_map OUTPUT) ms) ≤ pairs_in ms
unfolding pairs_in strike_map
outs_less [] = omega arith
outs_less (m ∷ ms) = omega (arith, strike_less OUTPUT m.pairs, outs_less ms)

file_less : (c : Content) → pairs_in (maps_of (struck c)) ≤ pairs_in (maps_of c)
unfolding pairs_in strike_map struck maps_of
file_less c = omega (arith, strike_less GLOBAL c.global.pairs, maps_less INPUT c.ins c.outs (map (strike_map OUTPUT) c.outs) (outs_less c.outs))

as_many : (c : Content) → length (maps_of (struck c)) ≡ length (maps_of c)
unfolding struck maps_of
as_many c = ap suc (length-append (map (strike_map INPUT) c.ins) (map (strike_map OUTPUT) c.outs)
    ∙ ap₂ (λ (n m : ℕ). n + m) (length-map c.ins (strike_map INPUT)) (length-map c.outs (strike_map OUTPUT)) ∙ sym (length-append c.ins c.outs))

room_struck : (c : Content) (P M : List ℕ) → Room c P M → Room (struck c) P M
room_struck c P M r = record { pairs = omega (arith, file_less c, r.pairs); maps = omega (arith, as_many c, r.maps) }

room_parses : (f : List ℕ) (c : Content) (P M : List ℕ) → reading f ≡ accepted c → Room c P M → ParsesTo f P M c
unfolding report_of
room_parses f c P M e r = parse_is f c P M e r

-- with room for each, both files parse, and every call of a listed type answers the same: pairs added
pub newer_calls : (f : List ℕ) (c d : Content) → reading f ≡ accepted c → AddedFile c d → RisesFile d → length (bytes d) ≤ limit
    → (P M Q N : List ℕ) → Room c P M → Room d Q N
    → ParsesTo f P M c × ParsesTo (bytes d) Q N d
    × SameCalls f (pair_table c P) (map_table c M) (report_of c) (bytes d) (pair_table d Q) (map_table d N) (report_of d) (kinds c)
newer_calls f c d e a r s P M Q N x y =
    let w = newer f c d e a r s in
    (room_parses f c P M e x, room_parses (bytes d) d Q N w.0 y, same_calls f c P M e (bytes d) d Q N w.0 w.1)

-- and pairs struck: tables with room for the file have room for what is left
pub older_calls : (f : List ℕ) (c : Content) → reading f ≡ accepted c → (P M : List ℕ) → Room c P M
    → ParsesTo f P M c × ParsesTo (bytes (struck c)) P M (struck c)
    × SameCalls (bytes (struck c)) (pair_table (struck c) P)
    (map_table (struck c) M) (report_of (struck c)) f (pair_table c P) (map_table c M) (report_of c) (kinds (struck c))
older_calls f c e P M r =
    let w = older f c e in (
      room_parses f c P M e r,
      room_parses (bytes (struck c)) (struck c) P M w.0 (room_struck c P M r),
      same_calls (bytes (struck c)) (struck c) P M w.0 f c P M e w.1,
    )
