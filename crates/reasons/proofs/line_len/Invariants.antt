-- `reasons::line_len` meets its contract. The loop's invariant: what was passed is of the first line.
use Rattle.reasons.proofs.Rows.{Along}
use Rattle.reasons.proofs.line_len.Given as goal

abbrev pub invariant-loop-i : goal.invariant-loop-i
invariant-loop-i l = Along l.text l.i
