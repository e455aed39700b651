-- `setter::named_count` meets its contract. The loop's invariant: what was counted and what is counted among the assignments
-- left are all.
use lib.Dec.{eqb}
use Rattle.format.proofs.Counts.{Counting}
use Rattle.setter.proofs.named_count.Given as goal

abbrev pub invariant-loop-a : goal.invariant-loop-a
invariant-loop-a g l = Counting (λ a. eqb a.output l.i) (g.L.Assignments.held l.fn.list) (g.L.Assignments.held l.a-iterator.list) l.n
