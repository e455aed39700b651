-- The transaction as it is written into a buffer, part behind part.
use Rattle.std.specs.Prelude.{ℕ, ◌+◌, List, [], ◌∷◌, length}
use Rattle.format.specs.Numbers.{bytes_of, unsigned}
use Rattle.format.specs.Compact.{shortest}
use Rattle.format.specs.Locks.{Sized, In}
use Rattle.format.specs.Scripts.{Out}
use Rattle.format.specs.Transaction.{or_final}
use Rattle.format.specs.declared.Psbt.{Psbt}
use Rattle.writer.specs.Writes.{wrote, size_length}
use Rattle.tx_size.specs.Lengths.{input_length, script_bytes, out_length}
use Rattle.tx_bytes.specs.Bytes.{bytes_in}

-- a place, and the buffer as it is there
pub data Put : Type 0 where
  put : ℕ → List ℕ → Put

-- an input written from `at` on
unfoldable pub put_input : List ℕ → ℕ → In → List ℕ
put_input B at x =
    wrote (wrote (wrote (wrote B at (bytes_in x.txid)) (at + 32) (bytes_in x.index)) (at + 36) (0 ∷ [])) (at + 37) (bytes_in (or_final x.sequence))

-- inputs written from `at` on
unfoldable pub put_inputs : List ℕ → ℕ → List In → Put
put_inputs B at [] = put at B
put_inputs B at (x ∷ xs) = put_inputs (put_input B at x) (at + input_length) xs

-- an output with script s written from `at` on
unfoldable pub put_output : List ℕ → ℕ → Sized → List ℕ → List ℕ
put_output B at a s = wrote (wrote (wrote B at (bytes_in a)) (at + 8) (shortest (length s))) (at + 8 + size_length (length s)) s

-- an output written from `at` on, and the place behind it
unfoldable pub put_one : List ℕ → ℕ → Out → Put
put_one B at o = put (at + out_length (length (script_bytes o.script))) (put_output B at o.amount (script_bytes o.script))

-- outputs written from `at` on
unfoldable pub put_outputs : List ℕ → ℕ → List Out → Put
put_outputs B at [] = put at B
put_outputs B at (o ∷ os) = put_outputs (put_output B at o.amount (script_bytes o.script)) (at + out_length (length (script_bytes o.script))) os

-- the lock time n, where outputs end
unfoldable pub put_lock : ℕ → Put → List ℕ
put_lock n (put at B) = wrote B at (bytes_of 4 n)

-- the count of outputs, the outputs and the lock time, where inputs end
unfoldable pub put_rest_def : List Out → ℕ → Put → List ℕ
put_rest_def outs n (put at B) = put_lock n (put_outputs (wrote B at (shortest (length outs))) (at + size_length (length outs)) outs)

-- version, count of inputs and inputs, from the front on
unfoldable pub put_front : List ℕ → Psbt → List In → Put
put_front B s ins = put_inputs (wrote (wrote B 0 (bytes_of 4 (unsigned s.tx_version))) 4 (shortest (length ins))) (4 + size_length (length ins)) ins

-- the transaction, from the front on
unfoldable pub put_tx : List ℕ → Psbt → List In → List Out → ℕ → List ℕ
put_tx B s ins outs n = put_rest_def outs n (put_front B s ins)
