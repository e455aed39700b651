-- `export_words::put` meets its contract. The loop's invariant: what is still to be copied, copied from here, gives the whole.
use Rattle.writer.proofs.Puts.{Copying}
use Rattle.export_words.proofs.put.Given as goal

abbrev pub invariant-loop-k : goal.invariant-loop-k
invariant-loop-k l = Copying l.fn.answer 0 l.words l.answer l.k
