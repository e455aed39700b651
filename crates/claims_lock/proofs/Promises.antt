-- What any outcome that meets the promise of `unsigned_tx` has: a lock that honours every input reported, and none where the clock is too small.
use mathlib.Core.Path.{◌≡◌, refl, sym, ◌∙◌, ap}
use mathlib.Core.List.{List}
use Prim.Native.Nat.{ℕ}
use lib.ListN.{take}
use Rattle.format.specs.Tests.{pick}
use Rattle.format.specs.Tables.{view}
use Rattle.format.specs.Locks.{In}
use Rattle.format.specs.Scripts.{Out, Reported, unfit_map, reports, reported}
use Rattle.format.specs.Transaction.{Tx, refuses, table_fits, set_so_far, tx_reported, TxOut, tx_out, written, unsigned_tx_def}
use Rattle.format.specs.Told.{told_left, told_tx, told_tx_out}
use Rattle.format.specs.declared.PsbtError.{PsbtError}
use Rattle.format.specs.declared.PsbtError.TheVariants.{BadValue, BadIndex}
use Rattle.format.specs.declared.Psbt.{Psbt}
use Rattle.format.specs.declared.State.{State}
use Rattle.format.specs.Answers.{wrote_tx, UnsignedTx}
use Rattle.std.specs.Prelude.{Ok, Err}
use Rattle.format.proofs.Tests.{pick_ap}
use Rattle.format.proofs.Numbers.{All, Byte}
use Rattle.format.proofs.Told.{tx_out_one}
use Rattle.claims_lock.specs.Honours.{lock_in, AllHonoured, FallenTimes, FallenClock}
use Rattle.claims_lock.proofs.Ends.{never_writes}
use Rattle.claims_lock.proofs.Honours.{times_too_small}
use Rattle.claims_lock.proofs.Calls.{view_bytes, written_is, call_meets, call_honours}

-- an outcome that meets the promise is the definition's
pub outcome : (r : UnsignedTx) (B' : List ℕ) (o : TxOut) → told_left (told_tx r) B' ≡ told_tx_out o → o ≡ tx_out r B'
unfolding told_tx_out
outcome r B' o p = sym (tx_out_one (tx_out r B') o p)

-- a transaction is written only where all maps are fit
module _ (f P M : List ℕ) (s : Psbt) (t : State) (T B : List ℕ) (bytes : All Byte f) (n : ℕ) (t' : State) (B' : List ℕ)
    (call : unsigned_tx_def (view f P M s) s t T B ≡ tx_out (Ok (wrote_tx n t')) B') where
  honoured_by : (x : Reported) → reported (view f P M s) s ≡ x → AllHonoured (lock_in (take n B')) x
  unfolding unsigned_tx_def tx_reported
  honoured_by (unfit_map e) q = never_writes (written_is t t' B B' n (tx_reported s t T (unfit_map e)) (rw q at call))
  honoured_by (reports ins outs) q = (
    call_meets (view f P M s) s t T B ins outs q (view_bytes f P M s bytes) n t' B' call,
    call_honours (view f P M s) s t T B ins outs q (view_bytes f P M s bytes) n t' B' call,
  )

-- of any file and tables, and any outcome that meets the promise: if bytes were written, the lock that they end in honours every input that the maps report
pub written_honours : (f P M : List ℕ) (s : Psbt) (t : State) (T B : List ℕ) → All Byte f
    → (r : UnsignedTx) (B' : List ℕ) → told_left (told_tx r) B' ≡ told_tx_out (unsigned_tx_def (view f P M s) s t T B)
    → (n : ℕ) (t' : State) → r ≡ Ok (wrote_tx n t') → AllHonoured (lock_in (take n B')) (reported (view f P M s) s)
written_honours f P M s t T B bytes r B' promise n t' w =
    honoured_by f P M s t T B bytes n t' B' (outcome r B' _ promise ∙ ap (λ (x : UnsignedTx). tx_out x B') w) (reported (view f P M s) s) refl

-- where the greatest time is too small: 24 if the script table is unfit, else 7
pub fallen_refused : (s : Psbt) (t : State) (T : List ℕ) (ins : List In) (outs : List Out) → FallenTimes ins
    → tx_reported s t T (reports ins outs) ≡ refuses (pick (table_fits t outs T) BadValue BadIndex)
unfolding tx_reported
fallen_refused s t T ins outs h =
    ap (λ (x : Tx). pick (table_fits t outs T) x (refuses BadIndex)) (times_too_small s ins outs (set_so_far t T) h.0.0 h.0.1 h.0.2 h.1)
    ∙ sym (pick_ap refuses (table_fits t outs T) BadValue BadIndex)

-- a refusal leaves the buffer as it was
abbrev Refusal : List ℕ → TxOut → Type 0
Refusal B o = (e : PsbtError) × (o ≡ tx_out (Err e) B)

module _ (s : Psbt) (t : State) (T B : List ℕ) where
  fallen_by : (x : Reported) → FallenClock x → Refusal B (written t B (tx_reported s t T x))
  unfolding written
  fallen_by (unfit_map e) h = absurd h
  fallen_by (reports ins outs) h = (_, ap (written t B) (fallen_refused s t T ins outs h))

-- of any file and tables whose greatest time asked for is below the threshold, and any outcome that
-- meets the promise: it is a refusal, and the buffer is as it was
pub fallen_clock_never : (f P M : List ℕ) (s : Psbt) (t : State) (T B : List ℕ) → FallenClock (reported (view f P M s) s)
    → (r : UnsignedTx) (B' : List ℕ) → told_left (told_tx r) B' ≡ told_tx_out (unsigned_tx_def (view f P M s) s t T B)
    → ((e : PsbtError) × (r ≡ Err e)) × (B' ≡ B)
unfolding unsigned_tx_def
fallen_clock_never f P M s t T B clock r B' promise =
    let x = fallen_by s t T B (reported (view f P M s) s) clock in
    let e : tx_out r B' ≡ tx_out (Err x.0) B = sym (outcome r B' _ promise) ∙ x.1 in
    ((x.0, (cc)), (cc))
