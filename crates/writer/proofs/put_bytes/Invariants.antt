-- `writer::put_bytes` meets its contract. The loop's invariant: what is still to be copied, copied from here, gives the whole.
use Rattle.writer.proofs.Puts.{Copying}
use Rattle.writer.proofs.put_bytes.Given as goal

abbrev pub invariant-loop-j : goal.invariant-loop-j
invariant-loop-j l = Copying l.fn.buf l.at l.src l.buf l.j
