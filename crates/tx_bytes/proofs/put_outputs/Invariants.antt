-- `tx_bytes::put_outputs` meets its contract. The loop's invariant: writing the outputs from number i on gives what writing all gives.
use Rattle.tx_bytes.proofs.Outputs.{Putting}
use Rattle.tx_bytes.proofs.put_outputs.Given as goal

abbrev pub invariant-loop-i : goal.invariant-loop-i
invariant-loop-i l = Putting l.file l.pairs l.maps l.fn.psbt l.fn.state l.scripts l.initial.out l.fn.at l.out l.i l.to
