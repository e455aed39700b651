-- `writer::put_le` meets its contract. The loop's invariant: what is still to be written, written from here, gives the whole.
use Rattle.writer.proofs.Puts.{Putting}
use Rattle.writer.proofs.put_le.Given as goal

abbrev pub invariant-loop-j : goal.invariant-loop-j
invariant-loop-j l = Putting l.fn.buf l.at l.value l.width l.buf l.left l.j
