-- The loop's invariant: the rows from this one on have the type where all have it.
use Rattle.fields.proofs.Types.{TypeFrom}
use Rattle.fields.proofs.has_type.Given as goal

abbrev pub invariant-loop-row : goal.invariant-loop-row
invariant-loop-row l = TypeFrom l.row-items l.key_type l.row-index
