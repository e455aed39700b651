-- `fields::is_kept` meets its contract: each way out has its law.
use Rattle.std.proofs.Common.{rules}
use Rattle.fields.proofs.Rows.{row}
use Rattle.fields.proofs.is_kept.Goals as goal

pub returns-then-row : goal.returns-then-row
returns-then-row c = search (rules, row)

pub returns-else-row : goal.returns-else-row
returns-else-row c = search (rules, row)
