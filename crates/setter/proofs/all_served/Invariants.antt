-- The loop's invariant: whether the outputs from `i` on are served is whether all are.
use Rattle.setter.proofs.Rights.{Serving}
use Rattle.setter.proofs.all_served.Given as goal

abbrev pub invariant-loop-i : goal.invariant-loop-i
invariant-loop-i g l = Serving l.file l.pairs l.maps l.psbt (g.L.Assignments.held l.list) l.i
