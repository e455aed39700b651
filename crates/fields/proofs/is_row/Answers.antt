-- `fields::is_row` meets its contract: each way out has its law.
use Rattle.std.proofs.Common.{rules}
use Rattle.fields.proofs.Rows.{row}
use Rattle.fields.proofs.is_row.Goals as goal

pub returns-then-eq : goal.returns-then-eq
returns-then-eq c = search (rules, row)

pub returns-else-eq : goal.returns-else-eq
returns-else-eq c = search (rules, row)
