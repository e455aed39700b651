-- The refusals 4, 9 to 12, 15, 16 and 20 are never given: not by a parse, a lookup, the setter or the transaction, whatever the file and the tables.
use mathlib.Core.Path.{◌≡◌, refl}
use mathlib.Core.Bool.{Bool, true, not, ◌&&◌}
use mathlib.Core.List.{List, [], ◌∷◌, ◌++◌, map}
use Prim.Native.Nat.{ℕ, zero, suc, ◌+◌, ◌-◌, ◌*◌, ◌/◌}
use lib.Dec.{leb, ltb, eqb}
use lib.ListN.{length, take, drop, get_or}
use Rattle.format.specs.Refusals.{number_of}
use Rattle.format.specs.Rules.{span, within}
use Rattle.format.specs.Keys.{key_of, same}
use Rattle.format.specs.Content.{magic, Found, absent, found}
use Rattle.format.specs.Reading.{Reading, done, refusal, begins, pair, ended, events}
use Rattle.format.specs.Entries.{pair_words, map_words, has_room_def, put_pair, put_map, pair_entries, map_entries, entry_of, width, key_in_def, shown}
use Rattle.format.specs.Parse.{ParseOut, out, cut, parsed}
use Rattle.format.specs.Tables.{fit, Held, no, holds, fitted, held_by_def, maps_reported, held, held_input, held_output}
use Rattle.format.specs.Tables.{View, hides, shows, view_of, view, Gathered, unfit, gathered, gather_by, gather}
use Rattle.format.specs.Lookups.{place, Length, any_length, key_list, exactly, length_fits, of_length_def, asked, look, number_at, list, nth_of, nth}
use Rattle.format.specs.Fields.{part_field_def, number_field, witness_utxo_def, scan_lookup, musig_lookup, input_participants, output_participants}
use Rattle.format.specs.Fields.{participant_count, participant, utxo_of, utxo_by, get_witness_utxo}
use Rattle.format.specs.Locks.{Sized, missing, misfit, is, In, Asked, heights, times, misfits, threshold, greatest, height_lock}
use Rattle.format.specs.Locks.{time_lock, decide_by, well_formed, decide, Locked, unlocked, locked, lock_of}
use Rattle.format.specs.Scripts.{Out, out_of, Reported, unfit_map, reports, reported_by, reported, Given, whole, cut_short}
use Rattle.format.specs.Scripts.{script_entry, right_for, settable, set_out_def, set_table, set_given, set_by, set_scripts}
use Rattle.format.specs.Transaction.{table_fits, set_so_far, script_of, Tx, refuses, writes, ahead, needs, or_final, input_then}
use Rattle.format.specs.Transaction.{inputs_then, needs_script, output_then, outputs_then, tx_with, tx_by, transaction, tx_reported}
use Rattle.format.specs.Transaction.{tx_out, written, unsigned_tx_def, lock_by, lock_decided, script_place, output_script_def}
use Rattle.format.specs.declared.PsbtError.{PsbtError}
use Rattle.format.specs.declared.PsbtError.TheVariants.{BadValue, OutOfRange, MissingOutputScript, InvalidOutputScripts, PairsFull, MapsFull, BadIndex, NoRoom}
use Rattle.format.specs.Answers.{Decided, Looked, Maybe}
use Rattle.std.specs.Prelude.{Ok, Err, Some, None}
use Rattle.format.specs.declared.Psbt.{Psbt}
use Rattle.format.specs.declared.PairEntry.{PairEntry}
use Rattle.format.specs.declared.MapEntry.{MapEntry}
use Rattle.format.specs.declared.Parsed.TheVariants as A
use Rattle.format.specs.declared.Lock.TheVariants as W
use Rattle.format.specs.declared.State.{State}
use Rattle.format.specs.declared.ScriptPlace.TheVariants as O
use Rattle.format.proofs.Tests.{pick_by, and_left}
use Rattle.claims_reading.specs.Given.{given, of_file, Gives}
use Rattle.claims_reading.proofs.Orderly.{Orderly, events_orderly}

-- these refusals are given
bad_value : given BadValue ≡ true
unfolding given within span number_of
bad_value = refl

out_of_range : given OutOfRange ≡ true
unfolding given within span number_of
out_of_range = refl

bad_index : given BadIndex ≡ true
unfolding given within span number_of
bad_index = refl

no_room : given NoRoom ≡ true
unfolding given within span number_of
no_room = refl

missing_script : given MissingOutputScript ≡ true
unfolding given within span number_of
missing_script = refl

invalid_scripts : given InvalidOutputScripts ≡ true
unfolding given within span number_of
invalid_scripts = refl

pairs_full : given PairsFull ≡ true
unfolding given within span number_of
pairs_full = refl

maps_full : given MapsFull ≡ true
unfolding given within span number_of
maps_full = refl

-- so are those of a file
of_file_lem : (e : PsbtError) → of_file e ≡ true → given e ≡ true
unfolding of_file
of_file_lem e h = and_left (given e) (not (within (span 14 14 ∷ span 19 19 ∷ span 22 25 ∷ []) (number_of e))) h

-- parse
abbrev Parses : ParseOut → Type 0
Parses o = (e : PsbtError) (p m : ℕ) (P M : List ℕ) → o ≡ out (A.Refused e p m) P M → given e ≡ true

cut_gives : (r : Reading) (o at p m i : ℕ) (P M : List ℕ) → Orderly o r → Parses (cut at p m i P M r)
unfolding cut
cut_gives (done c) o at p m i P M h = λ e p' m' P' M' q. cc
cut_gives (refusal x) o at p m i P M h = λ e p' m' P' M' q. cc (of_file_lem x h)
cut_gives (begins r) zero at p m i P M h =
    pick_by Parses (has_room_def map_words m M) _ _ (λ t. cut_gives r 1 at p m i P M h) (λ t e p' m' P' M' q. cc maps_full)
cut_gives (begins r) (suc o) at p m i P M h = absurd h
cut_gives (pair x r) o at p m i P M h =
    pick_by Parses (has_room_def pair_words p P) _ _ (λ t. cut_gives r o (at + width x) (p + 1) m i (put_pair P p (entry_of at x)) M h)
    (λ t e p' m' P' M' q. cc pairs_full)
cut_gives (ended a r) zero at p m i P M h = absurd h
cut_gives (ended a r) (suc o) at p m i P M h = cut_gives r o (at + length a) p (m + 1) p P (put_map M m (record { first = i; count = p - i })) h

pub parse_gives : (f P M : List ℕ) (e : PsbtError) (p m : ℕ) (P' M' : List ℕ) → parsed f P M ≡ out (A.Refused e p m) P' M' → given e ≡ true
unfolding parsed
parse_gives f P M = cut_gives (events f) 0 (length magic) 0 0 0 P M (events_orderly f)

-- maps of any tables
by_gives : (f : List ℕ) (es : List PairEntry) (rs : List MapEntry) → Gives no (held_by_def f es rs)
unfolding held_by_def fitted
by_gives f es [] = λ e q. cc bad_index
by_gives f es (r ∷ rs) =
    pick_by (Gives no) (leb (r.first + r.count) (length es)) _ _
    (λ t. pick_by (Gives no) (fit f [] (take r.count (drop r.first es))) _ _ (λ w e q. cc) (λ w e q. cc bad_index))
    (λ t e q. cc bad_index)

module _ (f P M : List ℕ) (s : Psbt) where
  pub held_gives : (m : ℕ) → Gives no (held f P M s m)
  unfolding held
  held_gives m = pick_by (Gives no) (ltb m (maps_reported s)) _ _ (λ t. by_gives f (pair_entries P) (drop m (map_entries M))) (λ t e q. cc out_of_range)

  pub input_gives : (i : ℕ) → Gives no (held_input f P M s i)
  unfolding held_input
  input_gives i = pick_by (Gives no) (ltb i s.inputs) _ _ (λ t. held_gives (1 + i)) (λ t e q. cc out_of_range)

  pub output_gives : (i : ℕ) → Gives no (held_output f P M s i)
  unfolding held_output
  output_gives i = pick_by (Gives no) (ltb i s.outputs) _ _ (λ t. held_gives (1 + (s.inputs + i))) (λ t e q. cc out_of_range)

  pub view_gives : (m : ℕ) → Gives hides (view f P M s m)
  unfolding view view_of
  view_gives m = by (held f P M s m) (held_gives m)
    where
      by : (h : Held) → Gives no h → Gives hides (view_of f h)
      by (no x) g = λ e q. cc (g x refl)
      by (holds es) g = λ e q. cc

-- lookups in a map
place_gives : (f key : List ℕ) (es : List PairEntry) → Gives Err (place f key es)
unfolding place
place_gives f key [] = λ e q. cc
place_gives f key (x ∷ es) = pick_by (Gives Err) (same key (key_in_def f x)) _ _ (λ t e q. cc) (λ t. place_gives f key es)

length_gives : (l : Length) (y : Looked) → Gives Err y → Gives Err (of_length_def l y)
unfolding of_length_def
length_gives l (Err x) g = g
length_gives l (Ok None) g = g
length_gives l (Ok (Some p)) g = pick_by (Gives Err) (length_fits l p.len) _ _ (λ t. g) (λ t e q. cc bad_value)

module _ (f : List ℕ) (h : Held) (g : Gives no h) where
  pub asked_gives : (ok : Bool) (l : Length) (key : List ℕ) → Gives Err (asked ok l f key h)
  unfolding asked
  asked_gives ok l key = by h g
    where
      by : (h : Held) → Gives no h → Gives Err (asked ok l f key h)
      by (no x) g = λ e q. cc (g x refl)
      by (holds es) g = pick_by (Gives Err) ok _ _ (λ t. length_gives l (place f key es) (place_gives f key es)) (λ t e q. cc bad_value)

  pub look_gives : (t : ℕ) (d : List ℕ) → Gives Err (look f t d h)
  unfolding look
  look_gives t d = asked_gives true any_length (key_of t d)

  pub part_gives : (t : ℕ) (l : Length) → Gives Err (part_field_def t l f h)
  unfolding part_field_def
  part_gives t l = asked_gives true l (key_of t [])

  pub number_gives : (t w : ℕ) → Gives Err (number_field t w f h)
  unfolding number_field number_at
  number_gives t w = by (part_field_def t (exactly w) f h) (part_gives t (exactly w))
    where
      by : (y : Looked) → Gives Err y → Gives Err (number_at f y)
      by (Err x) k = λ e q. cc (k x refl)
      by (Ok None) k = λ e q. cc
      by (Ok (Some p)) k = λ e q. cc

  pub scan_gives : (t w : ℕ) (scan : List ℕ) → Gives Err (scan_lookup t w f scan h)
  unfolding scan_lookup
  scan_gives t w scan = asked_gives (eqb (length scan) 33) (exactly w) (key_of t scan)

  pub musig_gives : (t w : ℕ) (participant aggregate leaf : List ℕ) → Gives Err (musig_lookup t w f participant aggregate leaf h)
  unfolding musig_lookup
  musig_gives t w participant aggregate leaf = asked_gives _ (exactly w) (key_of t (participant ++ (aggregate ++ leaf)))

  pub input_list_gives : (aggregate leaf : List ℕ) → Gives Err (input_participants f aggregate leaf h)
  unfolding input_participants
  input_list_gives aggregate leaf = asked_gives _ key_list (key_of 0x1a (aggregate ++ leaf))

  pub output_list_gives : (aggregate : List ℕ) → Gives Err (output_participants f aggregate h)
  unfolding output_participants
  output_list_gives aggregate = asked_gives _ key_list (key_of 0x08 aggregate)

  pub list_gives : (t : ℕ) → Gives Err (list f t h)
  unfolding list
  list_gives t = by h g
    where
      by : (h : Held) → Gives no h → Gives Err (list f t h)
      by (no x) g = λ e q. cc (g x refl)
      by (holds es) g = λ e q. cc

  pub utxo_gives : Gives Err (get_witness_utxo f h)
  unfolding get_witness_utxo witness_utxo_def utxo_by utxo_of
  utxo_gives = by (part_field_def 0x01 any_length f h) (part_gives 0x01 any_length)
    where
      by : (y : Looked) → Gives Err y → Gives Err (utxo_by f y)
      by (Err x) k = λ e q. cc (k x refl)
      by (Ok None) k = λ e q. cc
      by (Ok (Some p)) k =
          pick_by (Gives Err) (leb 9 (length (take p.len (drop p.start f)))
          && (leb (get_or (take p.len (drop p.start f)) 8 0) 0xfc && eqb (length (take p.len (drop p.start f)))
          (9 + get_or (take p.len (drop p.start f)) 8 0))) _ _
          (λ t e q. cc) (λ t e q. cc bad_value)

pub participant_gives : (i : ℕ) (y : Looked) → Gives Err y → Gives Err (participant i y)
unfolding participant
participant_gives i (Err x) k = k
participant_gives i (Ok None) k = k
participant_gives i (Ok (Some p)) k = pick_by (Gives Err) (ltb i (p.len / 33)) _ _ (λ t e q. cc) (λ t e q. cc out_of_range)

pub participants_gives : (y : Looked) → Gives Err y → Gives Err (participant_count y)
unfolding participant_count
participants_gives (Err x) k = λ e q. cc (k x refl)
participants_gives (Ok None) k = λ e q. cc
participants_gives (Ok (Some p)) k = λ e q. cc

nth_of_gives : (i : ℕ) (es : List PairEntry) → Gives Err (nth_of i es)
unfolding nth_of
nth_of_gives i [] = λ e q. cc out_of_range
nth_of_gives zero (x ∷ es) = λ e q. cc
nth_of_gives (suc i) (x ∷ es) = nth_of_gives i es

pub nth_gives : (i : ℕ) (h : Held) → Gives no h → Gives Err (nth i h)
unfolding nth
nth_gives i (no x) g = λ e q. cc (g x refl)
nth_gives i (holds es) g = nth_of_gives i es

-- all reported maps
gather_by_gives : (v : View) (l : Gathered) → Gives hides v → Gives unfit l → Gives unfit (gather_by v l)
unfolding gather_by
gather_by_gives (hides x) l g k = λ e q. cc (g x refl)
gather_by_gives (shows ps) (unfit x) g k = k
gather_by_gives (shows ps) (gathered xs) g k = λ e q. cc

gather_gives : (v : ℕ → View) → ((m : ℕ) → Gives hides (v m)) → (n i : ℕ) → Gives unfit (gather v i n)
unfolding gather
gather_gives v g zero i = λ e q. cc
gather_gives v g (suc n) i = gather_by_gives (v i) (gather v (i + 1) n) (g i) (gather_gives v g n (i + 1))

reported_by_gives : (n : ℕ) (l : Gathered) → Gives unfit l → Gives unfit_map (reported_by n l)
unfolding reported_by
reported_by_gives n (unfit x) k = λ e q. cc (k x refl)
reported_by_gives n (gathered xs) k = λ e q. cc

-- the setter
set_gives : (buffer : List ℕ) (t : State) (T T' : List ℕ) (a : Given) (r : Reported)
    → Gives unfit_map r → Gives (λ e. set_out_def (Err e) T') (set_by buffer t T a r)
unfolding set_by set_given set_table
set_gives buffer t T T' a (unfit_map x) k = λ e q. cc (k x refl)
set_gives buffer t T T' cut_short (reports ins outs) k = λ e q. cc invalid_scripts
set_gives buffer t T T' (whole xs) (reports ins outs) k =
    pick_by (Gives (λ e. set_out_def (Err e) T')) (settable t && right_for outs buffer xs) _ _
    (λ w. pick_by (Gives (λ e. set_out_def (Err e) T')) (leb (script_entry * length outs) (length T)) _ _ (λ x e q. cc) (λ x e q. cc no_room))
    (λ w e q. cc invalid_scripts)

-- what decides a lock is no refusal
height_gives : (a : Asked) → Gives Err (height_lock a)
unfolding height_lock
height_gives a = pick_by (Gives Err) (ltb a.number threshold) _ _ (λ t e q. cc) (λ t e q. cc)

time_gives : (a : Asked) → Gives Err (time_lock a)
unfolding time_lock
time_gives a = pick_by (Gives Err) (leb threshold a.number) _ _ (λ t e q. cc) (λ t e q. cc)

decide_by_gives : (m : Maybe) (hs ts : List Asked) → Gives Err (decide_by m hs ts)
unfolding decide_by
decide_by_gives m [] [] = λ e q. cc
decide_by_gives m (h ∷ hs) [] = height_gives (greatest h hs)
decide_by_gives m [] (t ∷ ts) = time_gives (greatest t ts)
decide_by_gives m (h ∷ hs) (t ∷ ts) = λ e q. cc

formed_gives : (ms : List ℕ) (l : Decided) → Gives Err l → Gives Err (well_formed ms l)
unfolding well_formed
formed_gives [] l k = k
formed_gives (m ∷ ms) l k = λ e q. cc

decide_gives : (m : Maybe) (ins : List In) → Gives Err (decide m ins)
unfolding decide
decide_gives m ins = formed_gives (misfits 0 ins) _ (decide_by_gives m (heights 0 ins) (times 0 ins))

lock_gives : (l : Decided) → Gives Err l → Gives unlocked (lock_of l)
unfolding lock_of
lock_gives (Err x) k = λ e q. cc (k x refl)
lock_gives (Ok (W.Height n i)) k = λ e q. cc
lock_gives (Ok (W.Time n i)) k = λ e q. cc
lock_gives (Ok (W.Fallback n)) k = λ e q. cc
lock_gives (Ok (W.BothKinds h t)) k = λ e q. cc bad_value
lock_gives (Ok (W.HeightTooGreat n i)) k = λ e q. cc bad_value
lock_gives (Ok (W.TimeTooSmall n i)) k = λ e q. cc bad_value
lock_gives (Ok (W.Malformed i)) k = λ e q. cc bad_value

-- the transaction
ahead_gives : (b : List ℕ) (t : Tx) → Gives refuses t → Gives refuses (ahead b t)
unfolding ahead
ahead_gives b (refuses x) k = k
ahead_gives b (writes x) k = λ e q. cc

needs_gives : (x : Sized) (k : List ℕ → Tx) → ((b : List ℕ) → Gives refuses (k b)) → Gives refuses (needs x k)
unfolding needs
needs_gives missing k g = λ e q. cc bad_value
needs_gives misfit k g = λ e q. cc bad_value
needs_gives (is b) k g = g b

script_gives : (x : Found) (k : List ℕ → Tx) → ((b : List ℕ) → Gives refuses (k b)) → Gives refuses (needs_script x k)
unfolding needs_script
script_gives absent k g = λ e q. cc missing_script
script_gives (found b) k g = g b

inputs_give : (xs : List In) (t : Tx) → Gives refuses t → Gives refuses (inputs_then xs t)
unfolding inputs_then input_then
inputs_give [] t k = k
inputs_give (x ∷ xs) t k = needs_gives x.txid _
    (λ a. needs_gives x.index _ (λ b. needs_gives (or_final x.sequence) _ (λ c. ahead_gives _ _ (inputs_give xs t k))))

outputs_give : (os : List Out) (T : List ℕ) (t : Tx) → Gives refuses t → Gives refuses (outputs_then os T t)
unfolding outputs_then output_then
outputs_give [] T t k = k
outputs_give (o ∷ os) T t k = needs_gives o.amount _
    (λ a. script_gives (script_of o.script (take script_entry T)) _ (λ b. ahead_gives _ _ (outputs_give os (drop script_entry T) t k)))

tx_by_gives : (s : Psbt) (ins : List In) (outs : List Out) (T : List ℕ) (l : Locked) → Gives unlocked l → Gives refuses (tx_by s ins outs T l)
unfolding tx_by tx_with
tx_by_gives s ins outs T (unlocked x) k = λ e q. cc (k x refl)
tx_by_gives s ins outs T (locked n) k = ahead_gives _ _ (inputs_give ins _ (ahead_gives _ _ (outputs_give outs T _ (λ e q. cc))))

reported_tx_gives : (s : Psbt) (t : State) (T : List ℕ) (r : Reported) → Gives unfit_map r → Gives refuses (tx_reported s t T r)
unfolding tx_reported transaction
reported_tx_gives s t T (unfit_map x) k = λ e q. cc (k x refl)
reported_tx_gives s t T (reports ins outs) k =
    pick_by (Gives refuses) (table_fits t outs T) _ _
    (λ w. tx_by_gives s ins outs (set_so_far t T) _ (lock_gives _ (decide_gives s.fallback_locktime ins)))
    (λ w e q. cc bad_index)

written_gives : (t : State) (B B' : List ℕ) (x : Tx) → Gives refuses x → Gives (λ e. tx_out (Err e) B') (written t B x)
unfolding written
written_gives t B B' (refuses x) k = λ e q. cc (k x refl)
written_gives t B B' (writes x) k = pick_by (Gives (λ e. tx_out (Err e) B')) (leb (length x) (length B)) _ _ (λ w e q. cc) (λ w e q. cc no_room)

lock_by_gives : (s : Psbt) (r : Reported) → Gives unfit_map r → Gives Err (lock_by s r)
unfolding lock_by
lock_by_gives s (unfit_map x) k = λ e q. cc (k x refl)
lock_by_gives s (reports ins outs) k = decide_gives s.fallback_locktime ins

-- the calls on all reported maps
script_place_gives : (t : State) (i : ℕ) (o : Looked) → Gives Err o → Gives Err (script_place t i o)
unfolding script_place
script_place_gives t i (Err x) g = λ e q. cc (g x refl)
script_place_gives t i (Ok None) g = pick_by (Gives Err) t.set _ _ (λ w e q. cc) (λ w e q. cc)
script_place_gives t i (Ok (Some p)) g = λ e q. cc

held_script_gives : (f : List ℕ) (t : State) (T : List ℕ) (i : ℕ) (h : Held) → Gives no h → Gives Err (output_script_def f t T i h)
unfolding output_script_def
held_script_gives f t T i (no x) g = λ e q. cc (g x refl)
held_script_gives f t T i (holds es) g =
    pick_by (Gives Err) (table_fits t (out_of (map (shown f) es) ∷ []) (drop (i * script_entry) T)) _ _
    (λ w. script_place_gives t i (place f (key_of 0x04 []) es) (place_gives f (key_of 0x04 []) es)) (λ w e q. cc bad_index)

module _ (f P M : List ℕ) (s : Psbt) where
  reported_gives : Gives unfit_map (reported (view f P M s) s)
  unfolding reported
  reported_gives = reported_by_gives s.inputs _ (gather_gives (view f P M s) (view_gives f P M s) (maps_reported s) 0)

  pub scripts_give : (a : Given) (buffer : List ℕ) (t : State) (T T' : List ℕ)
      → Gives (λ e. set_out_def (Err e) T') (set_scripts (view f P M s) s a buffer t T)
  unfolding set_scripts
  scripts_give a buffer t T T' = set_gives buffer t T T' a (reported (view f P M s) s) reported_gives

  pub tx_gives : (t : State) (T B B' : List ℕ) → Gives (λ e. tx_out (Err e) B') (unsigned_tx_def (view f P M s) s t T B)
  unfolding unsigned_tx_def
  tx_gives t T B B' = written_gives t B B' _ (reported_tx_gives s t T (reported (view f P M s) s) reported_gives)

  pub lock_decided_gives : Gives Err (lock_decided (view f P M s) s)
  unfolding lock_decided
  lock_decided_gives = lock_by_gives s (reported (view f P M s) s) reported_gives

  pub output_script_gives : (t : State) (T : List ℕ) (i : ℕ) → Gives Err (output_script_def f t T i (held_output f P M s i))
  output_script_gives t T i = held_script_gives f t T i (held_output f P M s i) (output_gives f P M s i)
