-- The bytes of a transaction, by its inputs and outputs.
use Rattle.std.specs.Prelude.{ℕ, Bool, ◌&&◌, List, [], ◌∷◌, ◌++◌, length}
use Rattle.format.specs.Numbers.{bytes_of, unsigned}
use Rattle.format.specs.Compact.{shortest}
use Rattle.format.specs.Locks.{Sized, missing, misfit, is, In}
use Rattle.format.specs.Scripts.{Out}
use Rattle.format.specs.Transaction.{or_final}
use Rattle.format.specs.declared.Psbt.{Psbt}
use Rattle.tx_size.specs.Lengths.{is_there, script_bytes}

-- the bytes of a field, where it is there and has its length; none else
unfoldable pub bytes_in : Sized → List ℕ
bytes_in missing = []
bytes_in misfit = []
bytes_in (is v) = v

-- an input has what a transaction needs
unfoldable pub input_ok_def : In → Bool
input_ok_def x = is_there x.txid && (is_there x.index && is_there (or_final x.sequence))

-- an input's bytes: txid, index, an empty script, sequence
unfoldable pub input_bytes : In → List ℕ
input_bytes x = bytes_in x.txid ++ (bytes_in x.index ++ (0 ∷ bytes_in (or_final x.sequence)))

-- those of inputs, together
unfoldable pub inputs_bytes : List In → List ℕ
inputs_bytes [] = []
inputs_bytes (x ∷ xs) = input_bytes x ++ inputs_bytes xs

-- an output's, with amount a and script s
unfoldable pub out_bytes : Sized → List ℕ → List ℕ
out_bytes a s = bytes_in a ++ (shortest (length s) ++ s)

-- those of outputs, together
unfoldable pub outs_bytes : List Out → List ℕ
outs_bytes [] = []
outs_bytes (o ∷ os) = out_bytes o.amount (script_bytes o.script) ++ outs_bytes os

-- the transaction's bytes, n being its lock time
unfoldable pub tx_bytes : Psbt → List In → List Out → ℕ → List ℕ
tx_bytes s ins outs n =
    (bytes_of 4 (unsigned s.tx_version) ++ shortest (length ins)) ++ (inputs_bytes ins ++ (shortest (length outs) ++ (outs_bytes outs ++ bytes_of 4 n)))
