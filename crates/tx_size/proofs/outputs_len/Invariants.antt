-- `tx_size::outputs_len` meets its contract. The loop's invariant: measuring the outputs from number i on gives what measuring all gives.
use Rattle.tx_size.proofs.Outputs.{Measuring}
use Rattle.tx_size.proofs.outputs_len.Given as goal

abbrev pub invariant-loop-i : goal.invariant-loop-i
invariant-loop-i l = Measuring l.file l.pairs l.maps l.fn.psbt l.fn.state l.scripts l.fn.first l.i l.total
