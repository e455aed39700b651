-- `fields::row_rule` meets its contract: each way out has its law.
use Rattle.std.proofs.Common.{rules}
use Rattle.fields.proofs.Rows.{row}
use Rattle.fields.proofs.row_rule.Goals as goal

pub returns-then-is_kept : goal.returns-then-is_kept
returns-then-is_kept c = search (rules, row)

pub returns-then-both_fit : goal.returns-then-both_fit
returns-then-both_fit c = search (rules, row)

pub returns-else-both_fit : goal.returns-else-both_fit
returns-else-both_fit c = search (rules, row)
