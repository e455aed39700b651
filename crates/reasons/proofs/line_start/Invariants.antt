-- `reasons::line_start` meets its contract. The loop's invariant: so many lines are left to pass as were passed already.
use Rattle.reasons.proofs.Rows.{Passing}
use Rattle.reasons.proofs.line_start.Given as goal

abbrev pub invariant-loop-i : goal.invariant-loop-i
invariant-loop-i l = Passing l.text l.n l.i l.left
