-- `heed_lines::heed_of` meets its contract. The invariant: the inputs from `i` on say what all say.
use Rattle.heed_lines.proofs.Laws.{Heeding}
use Rattle.heed_lines.proofs.heed_of.Given as goal

abbrev pub invariant-loop-i : goal.invariant-loop-i
invariant-loop-i l = Heeding l.file l.pairs l.maps l.psbt l.i
