-- The loop's invariant: the entries still to be written give the whole.
use Rattle.setter.proofs.Fills.{Filling}
use Rattle.setter.proofs.put_entries.Given as goal

abbrev pub invariant-loop-i : goal.invariant-loop-i
invariant-loop-i g l = Filling l.fn.table l.outputs (g.L.Assignments.held l.list) l.buffer l.table l.i
