-- `fields::field_rule` meets its contract: each way out has its law.
use Rattle.std.proofs.Common.{rules}
use Rattle.format.proofs.Answers.{handed_on}
use Rattle.fields.proofs.Fronts.{fronts}
use Rattle.fields.proofs.field_rule.Goals as goal

pub returns-in_err-check_sizes : goal.returns-in_err-check_sizes
returns-in_err-check_sizes c = handed_on _ _ c.in_err-check_sizes.field-0.0 c.from_residual.ensures.1 (search (rules, fronts, c.in_err-check_sizes.was))

pub returns-then-is_bare : goal.returns-then-is_bare
returns-then-is_bare c = search (rules, fronts, c.in_ok-check_sizes.was)

pub returns-else-is_bare : goal.returns-else-is_bare
returns-else-is_bare c = search (rules, fronts, c.in_ok-check_sizes.was)
