-- The whole call: what was measured is the definition's transaction or its refusal, and what is written are its bytes.
use mathlib.Core.Path.{◌≡◌, refl, sym, ◌∙◌, ap, ap₂}
use mathlib.Core.Bool.{Bool, true, false}
use mathlib.Core.List.{List, ◌∷◌, ◌++◌}
use Prim.Native.Nat.{ℕ, zero, suc, ◌+◌, ◌*◌, ◌^◌, ◌≤◌, ◌<◌}
use native.Mathlib.Omega.{arith}
use borrow.Author.Tests.{le-leb, lt-leb}
use lib.ListN.{length, take, drop}
use Rattle.format.specs.Tests.{every}
use Rattle.format.specs.Tables.{view, gather, maps_reported}
use Rattle.format.specs.Locks.{lock_of, decide}
use Rattle.format.specs.Scripts.{Out, script_entry, Reported, reports}
use Rattle.format.specs.Transaction.{Tx, writes, table_fits, set_so_far, tx_with, tx_by, transaction}
use Rattle.format.specs.Transaction.{tx_reported, TxOut, tx_out, written, unsigned_tx_def, lock_by, lock_decided}
use Rattle.format.specs.Told.{told_left, told_tx, told_tx_out}
use Rattle.format.specs.declared.PsbtError.{PsbtError}
use Rattle.format.specs.declared.PsbtError.TheVariants.{BadValue, BadIndex, NoRoom}
use Rattle.format.specs.declared.Psbt.{Psbt}
use Rattle.format.specs.declared.Lock.{Lock}
use Rattle.format.specs.declared.State.{State}
use Rattle.format.specs.Answers.{wrote_tx, Numbering, Ruled, UnsignedTx}
use Rattle.std.specs.Prelude.{Ok, Err}
use Rattle.writer.proofs.Writes.{wrote_front}
use Rattle.scripts.specs.Tables.{entry_at}
use Rattle.all_maps_fit.specs.Alls.{ruled_by, AllFit, out_at, from, ins_of, outs_of}
use Rattle.all_maps_fit.proofs.Gathers.{all_are, all_not, all_reported}
use Rattle.lock.specs.Asks.{no_asks, walk, decide_asks, locked_by}
use Rattle.lock.proofs.Locks.{lock_fit}
use Rattle.tx_size.specs.Lengths.{scripted, outs_length, capped, outs_measure, fixed_length, tx_measure, Measure}
use Rattle.tx_size.specs.Places.{out_now, outs_now}
use Rattle.tx_size.proofs.Lengths.{capped_most, capped_more, capped_least, capped_room, outs_length_lem}
use Rattle.tx_bytes.specs.Bytes.{input_ok_def, tx_bytes}
use Rattle.tx_bytes.specs.Puts.{put_tx}
use Rattle.tx_bytes.specs.Rooms.{TxRoom}
use Rattle.tx_bytes.proofs.Bytes.{sized_ins, sized_outs, tx_long, put_tx_lem}
use Rattle.tx_bytes.proofs.Wholes.{ins_count, outs_count}
use Rattle.unsigned_tx.specs.Surveys.{survey_of, AllOk, all_scripted}
use Rattle.unsigned_tx.specs.declared.Survey.{Survey}
use Rattle.unsigned_tx.proofs.Meanings.{tx_bad_input, tx_bad_output, tx_ok}
use Rattle.unsigned_tx.proofs.Judges.{next_entry}

-- the outputs by number are those of the definition, with their scripts by now
scripted_from : (g : ℕ → Out) (T : List ℕ) (i n : ℕ) → from (λ j. scripted (g j) (entry_at T j)) i n ≡ all_scripted (from g i n) (drop (i * script_entry) T)
unfolding from all_scripted entry_at
scripted_from g T i zero = refl
scripted_from g T i (suc n) =
    ap (λ (l : List Out). scripted (g i) (take script_entry (drop (i * script_entry) T)) ∷ l)
    (scripted_from g T (i + 1) n ∙ ap (all_scripted (from g (i + 1) n)) (sym (next_entry T i)))

scripted_now : (f P M : List ℕ) (s : Psbt) (t : State) (T : List ℕ) → outs_now f P M s t T ≡ all_scripted (outs_of f P M s) (set_so_far t T)
unfolding outs_now out_now outs_of
scripted_now f P M s t T = scripted_from (out_at f P M s) (set_so_far t T) 0 s.outputs

-- the call, where each input has what it needs: r is the measure
module _ (f P M : List ℕ) (s : Psbt) (t : State) (T : List ℕ) (n : ℕ) (B : List ℕ) (k : AllOk f P M s)
    (r : Measure) (q : r ≡ tx_measure s (outs_now f P M s t T)) where
  whole : Tx
  whole = tx_with s (ins_of f P M s) (outs_of f P M s) (set_so_far t T) n

  -- how many bytes the transaction has around its outputs
  around : ℕ
  around = fixed_length s.inputs s.outputs

  measured : (m : Measure) → r ≡ m → outs_measure (all_scripted (outs_of f P M s) (set_so_far t T)) (capped around) ≡ m
  unfolding tx_measure around
  measured m h = ap (λ (l : List Out). outs_measure l (capped (fixed_length s.inputs s.outputs))) (sym (scripted_now f P M s t T)) ∙ sym q ∙ h

  pub locked_refused : (e : PsbtError) → r ≡ Err e → tx_out (Err e) B ≡ written t B (tx_with s (ins_of f P M s) (outs_of f P M s) (set_so_far t T) n)
  unfolding written
  locked_refused e h =
      sym (ap (written t B) (tx_bad_output s (ins_of f P M s) (outs_of f P M s) (set_so_far t T) n k.ok (capped around) e (measured (Err e) h)))

  module _ (c : ℕ) (h : r ≡ Ok c) where
    bytes : List ℕ
    bytes = tx_bytes s (ins_of f P M s) (outs_now f P M s t T) n

    outs : outs_measure (outs_now f P M s t T) (capped around) ≡ Ok c
    unfolding tx_measure around
    outs = sym q ∙ h

    total : c ≡ capped (around + outs_length (outs_now f P M s t T))
    total = outs_length_lem (outs_now f P M s t T) _ c (capped_most _) outs ∙ capped_more around (outs_length (outs_now f P M s t T))

    is_written : whole ≡ writes bytes
    unfolding whole bytes
    is_written =
        tx_ok s (ins_of f P M s) (outs_of f P M s) (set_so_far t T) n k.ok (capped around) c (measured (Ok c) h)
        ∙ ap (λ (l : List Out). writes (tx_bytes s (ins_of f P M s) l n)) (sym (scripted_now f P M s t T))

    long : length bytes ≡ around + outs_length (outs_now f P M s t T)
    unfolding bytes around
    long =
        tx_long s (ins_of f P M s) (outs_now f P M s t T) n _ c (sized_ins f P M s) (sized_outs f P M s t T) k.ok outs
        ∙ rw (ins_count f P M s, outs_count f P M s t T)

    module _ (small : length B * 1 < 2 ^ 63) where
      exact : c ≤ length B → c ≡ length bytes
      exact l = total ∙ capped_room _ (length B) (omega arith) (omega (arith, total)) ∙ sym long

      pub locked_room : c ≤ length B → TxRoom f P M s t T (length B)
      unfolding around
      locked_room l = record { all_fit = k.all_fit; room = omega (arith, exact l, long) }

      pub locked_written : c ≤ length B → (B₁ : List ℕ) → B₁ ≡ put_tx B s (ins_of f P M s) (outs_now f P M s t T) n
          → tx_out (Ok (wrote_tx c (record { set = t.set; written = true }))) B₁ ≡ written t B (tx_with s (ins_of f P M s) (outs_of f P M s) (set_so_far t T) n)
      unfolding whole bytes written
      locked_written l B₁ w =
          let le : length bytes ≤ length B = omega (arith, exact l) in
          let y : B₁ ≡ bytes ++ drop (length bytes) B
          = w ∙ put_tx_lem s (ins_of f P M s) (outs_now f P M s t T) n _ c (sized_ins f P M s) (sized_outs f P M s t T) k.ok outs B ∙ wrote_front B bytes le in
          ap₂ (λ (k : ℕ) (b : List ℕ). tx_out (Ok (wrote_tx k (record { set = t.set; written = true }))) b) (exact l) y
          ∙ sym (ap (written t B) is_written ∙ rw (le-leb (length bytes) (length B) le))

      pub locked_none : length B < c → tx_out (Err NoRoom) B ≡ written t B (tx_with s (ins_of f P M s) (outs_of f P M s) (set_so_far t T) n)
      unfolding whole written
      locked_none l =
          let lt : length B < length bytes = omega (arith, total, long, capped_least (around + outs_length (outs_now f P M s t T))) in
          sym (ap (written t B) is_written ∙ rw (lt-leb (length bytes) (length B) lt))

pub ruleset lockeds = (locked_refused, locked_room, locked_written, locked_none)

-- the call, where all maps are fit
module _ (f P M : List ℕ) (s : Psbt) (t : State) (T : List ℕ) (k : AllFit f P M s) (B : List ℕ) (b : Bool) (eb : b ≡ table_fits t (outs_of f P M s) T) where
  by_maps : unsigned_tx_def (view f P M s) s t T B ≡ written t B (tx_reported s t T (reports (ins_of f P M s) (outs_of f P M s)))
  unfolding unsigned_tx_def
  by_maps = ap (λ (x : Reported). written t B (tx_reported s t T x)) (sym (all_reported f P M s k))

  pub call_table : b ≡ false → tx_out (Err BadIndex) B ≡ unsigned_tx_def (view f P M s) s t T B
  unfolding tx_reported written
  call_table h = sym (by_maps ∙ rw (sym eb ∙ h))

  module _ (h : b ≡ true) (v : Survey) (ev : v ≡ survey_of (ins_of f P M s)) (l : Lock) (el : Ok l ≡ decide_asks s.fallback_locktime v.asks)
      (r : Numbering) (er : locked_by r ≡ lock_of (Ok l)) where
    asked : v.asks ≡ walk no_asks 0 (ins_of f P M s)
    unfolding survey_of
    asked = ap (λ (x : Survey). x.asks) ev

    judged : (b : Bool) → v.ok ≡ b → every input_ok_def (ins_of f P M s) ≡ b
    unfolding survey_of
    judged b e = sym (ap (λ (x : Survey). x.ok) ev) ∙ e

    pub call_ok : v.ok ≡ true → AllOk f P M s
    call_ok e = record { all_fit = k; ok = judged true e }

    decided : lock_of (decide s.fallback_locktime (ins_of f P M s)) ≡ locked_by r
    unfolding lock_decided lock_by
    decided = sym (er ∙ ap lock_of (lock_fit f P M s k v.asks (Ok l) asked el ∙ ap (lock_by s) (sym (all_reported f P M s k))))

    by_lock : unsigned_tx_def (view f P M s) s t T B ≡ written t B (tx_by s (ins_of f P M s) (outs_of f P M s) (set_so_far t T) (locked_by r))
    unfolding tx_reported transaction
    by_lock = by_maps ∙ rw (sym eb ∙ h, decided)

    pub call_lock : (e : PsbtError) → r ≡ Err e → tx_out (Err e) B ≡ unsigned_tx_def (view f P M s) s t T B
    unfolding tx_by locked_by written
    call_lock e q = sym (by_lock ∙ rw q)

    pub call_locked : (n : ℕ) → r ≡ Ok n → (x : UnsignedTx) (B₁ : List ℕ)
        → tx_out x B₁ ≡ written t B (tx_with s (ins_of f P M s) (outs_of f P M s) (set_so_far t T) n)
        → tx_out x B₁ ≡ unsigned_tx_def (view f P M s) s t T B
    unfolding tx_by locked_by
    call_locked n q x B₁ w = w ∙ sym (by_lock ∙ rw q)

    pub call_bad : (n : ℕ) → r ≡ Ok n → v.ok ≡ false → tx_out (Err BadValue) B ≡ unsigned_tx_def (view f P M s) s t T B
    unfolding written
    call_bad n q e =
        call_locked n q (Err BadValue) B
        (sym (ap (written t B) (tx_bad_input s (ins_of f P M s) (outs_of f P M s) (set_so_far t T) n (judged false e))))

pub ruleset calls = (call_table, call_ok, call_lock, call_locked, call_bad)

-- the public call
module _ (f P M : List ℕ) (s : Psbt) (t : State) (T B : List ℕ) (y : Ruled) (ey : y ≡ ruled_by (gather (view f P M s) 0 (maps_reported s))) where
  pub told_unfit : (e : PsbtError) → y ≡ Err e → told_left (told_tx (Err e)) B ≡ told_tx_out (unsigned_tx_def (view f P M s) s t T B)
  unfolding unsigned_tx_def tx_reported written told_tx_out
  told_unfit e q = ap (λ (x : Reported). told_tx_out (written t B (tx_reported s t T x))) (all_not f P M s y ey e q)

pub told_tx_lem : (x : UnsignedTx) (B : List ℕ) (o : TxOut) → tx_out x B ≡ o → told_left (told_tx x) B ≡ told_tx_out o
unfolding told_tx_out
told_tx_lem x B o e = ap told_tx_out e

pub ruleset public = (all_are, told_unfit, told_tx_lem)
