-- `fields::sizes_in` meets its contract: each row has its law.
use Rattle.std.proofs.Common.{rules}
use Rattle.fields.proofs.Rows.{rows}
use Rattle.fields.proofs.sizes_in.Goals as goal

pub returns-then-is_row : goal.returns-then-is_row
returns-then-is_row c = search (rules, rows)

pub loop-row-preserved : goal.loop-row-preserved
loop-row-preserved c = search (rules, rows)

pub returns : goal.returns
returns c = search (rules, rows)
