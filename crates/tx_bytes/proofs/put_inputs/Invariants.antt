-- `tx_bytes::put_inputs` meets its contract. The loop's invariant: writing the inputs from number i on gives what writing all gives.
use Rattle.tx_bytes.proofs.Inputs.{Putting}
use Rattle.tx_bytes.proofs.put_inputs.Given as goal

abbrev pub invariant-loop-i : goal.invariant-loop-i
invariant-loop-i l = Putting l.file l.pairs l.maps l.fn.psbt l.initial.out l.fn.at l.out l.i l.to
