-- The unsigned transaction.
use Rattle.std.specs.Prelude.{ℕ, ◌+◌, ◌*◌, Bool, true, false, ◌&&◌, List, [], ◌∷◌, ◌++◌, map, length, take, drop, replicate, leb, eqb, Ok, Err, Some, None}
use Rattle.format.specs.Tests.{pick}
use Rattle.format.specs.Numbers.{bytes_of, unsigned}
use Rattle.format.specs.Compact.{shortest}
use Rattle.format.specs.Keys.{same, key_of}
use Rattle.format.specs.Content.{Found, absent, found}
use Rattle.format.specs.Entries.{shown}
use Rattle.format.specs.Tables.{View, Held, no, holds}
use Rattle.format.specs.Lookups.{place}
use Rattle.format.specs.Locks.{Sized, missing, misfit, is, In, Locked, unlocked, locked, decide, lock_of}
use Rattle.format.specs.Scripts.{Out, out_of, Reported, unfit_map, reports, reported, script_entry, taproot}
use Rattle.format.specs.declared.PsbtError.{PsbtError}
use Rattle.format.specs.declared.PsbtError.TheVariants.{BadValue, MissingOutputScript, BadIndex, NoRoom}
use Rattle.format.specs.declared.Psbt.{Psbt}
use Rattle.format.specs.declared.State.{State}
use Rattle.format.specs.Answers.{wrote_tx, Decided, Looked, OutputScript, UnsignedTx}
use Rattle.format.specs.declared.ScriptPlace.TheVariants as O

-- a script table's entry is one that the setter writes for an output with a script, or for one without
unfoldable pub entry_fits : Found → List ℕ → Bool
entry_fits (found s) e = same e (replicate script_entry 0)
entry_fits absent [] = false
entry_fits absent (b ∷ e) = eqb b 1 && taproot e

-- a script table whose front is the first output's entry
unfoldable pub scripts_fit : List Out → List ℕ → Bool
scripts_fit [] T = true
scripts_fit (o ∷ os) T = entry_fits o.script (take script_entry T) && scripts_fit os (drop script_entry T)

-- once scripts are set, the script table is one that the setter leaves
unfoldable pub table_fits : State → List Out → List ℕ → Bool
table_fits t outs T = pick t.set (scripts_fit outs T) true

-- the script table, as far as one was set
unfoldable pub set_so_far : State → List ℕ → List ℕ
set_so_far t T = pick t.set T []

-- the script set in an entry
unfoldable pub set_script : List ℕ → Found
set_script [] = absent
set_script (b ∷ s) = pick (eqb b 1) (found s) absent

-- an output's script: 04, else the one set
unfoldable pub script_of : Found → List ℕ → Found
script_of (found s) e = found s
script_of absent e = set_script e

-- bytes, or the refusal
pub data Tx : Type 0 where
  refuses : PsbtError → Tx
  writes : List ℕ → Tx

-- b in front
unfoldable pub ahead : List ℕ → Tx → Tx
ahead b (refuses e) = refuses e
ahead b (writes x) = writes (b ++ x)

-- a field that the transaction needs
unfoldable pub needs : Sized → (List ℕ → Tx) → Tx
needs missing k = refuses BadValue
needs misfit k = refuses BadValue
needs (is v) k = k v

-- an absent sequence is ffffffff
unfoldable pub or_final : Sized → Sized
or_final missing = is (0xff ∷ 0xff ∷ 0xff ∷ 0xff ∷ [])
or_final misfit = misfit
or_final (is v) = is v

-- an input: txid, index, an empty script, sequence; and then t
unfoldable pub input_then : In → Tx → Tx
input_then x t = needs x.txid (λ a. needs x.index (λ b. needs (or_final x.sequence) (λ c. ahead (a ++ (b ++ (0 ∷ c))) t)))

-- inputs in order, and then t
unfoldable pub inputs_then : List In → Tx → Tx
inputs_then [] t = t
inputs_then (x ∷ xs) t = input_then x (inputs_then xs t)

-- a script that the transaction needs
unfoldable pub needs_script : Found → (List ℕ → Tx) → Tx
needs_script absent k = refuses MissingOutputScript
needs_script (found s) k = k s

-- an output: amount, script length, script; and then t
unfoldable pub output_then : Out → List ℕ → Tx → Tx
output_then o e t = needs o.amount (λ a. needs_script (script_of o.script e) (λ s. ahead (a ++ (shortest (length s) ++ s)) t))

-- outputs in order, each with its entry of the script table, and then t
unfoldable pub outputs_then : List Out → List ℕ → Tx → Tx
outputs_then [] T t = t
outputs_then (o ∷ os) T t = output_then o (take script_entry T) (outputs_then os (drop script_entry T) t)

-- the transaction with lock time n: version, inputs, outputs, lock time
unfoldable pub tx_with : Psbt → List In → List Out → List ℕ → ℕ → Tx
tx_with s ins outs T n =
    ahead (bytes_of 4 (unsigned s.tx_version) ++ shortest (length ins))
    (inputs_then ins (ahead (shortest (length outs)) (outputs_then outs T (writes (bytes_of 4 n)))))

-- the lock's refusal, or the transaction
unfoldable pub tx_by : Psbt → List In → List Out → List ℕ → Locked → Tx
tx_by s ins outs T (unlocked e) = refuses e
tx_by s ins outs T (locked n) = tx_with s ins outs T n

-- the transaction of inputs and outputs, with the scripts set
unfoldable pub transaction : Psbt → List In → List Out → List ℕ → Tx
transaction s ins outs T = tx_by s ins outs T (lock_of (decide s.fallback_locktime ins))

-- before all: no map is unfit, nor the script table
unfoldable pub tx_reported : Psbt → State → List ℕ → Reported → Tx
tx_reported s t T (unfit_map e) = refuses e
tx_reported s t T (reports ins outs) = pick (table_fits t outs T) (transaction s ins outs (set_so_far t T)) (refuses BadIndex)

-- an answer, and the buffer as it is left
pub data TxOut : Type 0 where
  tx_out : UnsignedTx → List ℕ → TxOut

-- room is tested last, and bytes behind the transaction stay
unfoldable pub written : State → List ℕ → Tx → TxOut
written t B (refuses e) = tx_out (Err e) B
written t B (writes x) =
    pick (leb (length x) (length B))
    (tx_out (Ok (wrote_tx (length x) (record { set = t.set; written = true }))) (x ++ drop (length x) B))
    (tx_out (Err NoRoom) B)

-- the call, on what maps show: the state, the script table, the buffer
unfoldable pub unsigned_tx_def : (ℕ → View) → Psbt → State → List ℕ → List ℕ → TxOut
unsigned_tx_def v s t T B = written t B (tx_reported s t T (reported v s))

-- what decides the lock, as a call of its own
unfoldable pub lock_by : Psbt → Reported → Decided
lock_by s (unfit_map e) = Err e
lock_by s (reports ins outs) = decide s.fallback_locktime ins

-- of what maps show
unfoldable pub lock_decided : (ℕ → View) → Psbt → Decided
lock_decided v s = lock_by s (reported v s)

-- where the script of output number i stands: 04 where it was found, else the one set, behind the first byte of its entry
unfoldable pub script_place : State → ℕ → Looked → OutputScript
script_place t i (Err e) = Err e
script_place t i (Ok (Some p)) = Ok (Some (O.InFile p.start p.len))
script_place t i (Ok None) = pick t.set (Ok (Some (O.InTable (i * script_entry + 1) 34))) (Ok None)

-- the script of output number i as a call of its own: its map's refusal, then its entry of the script table, then the place
unfoldable pub output_script_def : List ℕ → State → List ℕ → ℕ → Held → OutputScript
output_script_def f t T i (no e) = Err e
output_script_def f t T i (holds es) =
    pick (table_fits t (out_of (map (shown f) es) ∷ []) (drop (i * script_entry) T)) (script_place t i (place f (key_of 0x04 []) es)) (Err BadIndex)

-- the part that stands there, of the file or of the script table: empty for absence and refusal
unfoldable pub script_part : List ℕ → List ℕ → OutputScript → List ℕ
script_part f T (Err e) = []
script_part f T (Ok None) = []
script_part f T (Ok (Some (O.InFile s n))) = take n (drop s f)
script_part f T (Ok (Some (O.InTable s n))) = take n (drop s T)
