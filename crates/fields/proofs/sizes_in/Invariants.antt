-- The loop's invariant: the rows from this one on say what all say.
use Rattle.format.specs.Rules.{kind_of}
use Rattle.fields.proofs.Rows.{From}
use Rattle.fields.proofs.sizes_in.Given as goal

abbrev pub invariant-loop-row : goal.invariant-loop-row
invariant-loop-row l = From l.row-items (kind_of l.kind) l.key_type l.key_data_len l.value_len l.row-index
