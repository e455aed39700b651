-- `fields::count_rule` meets its contract: each way out has its law.
use Rattle.std.proofs.Common.{rules}
use Rattle.format.proofs.Answers.{handed_on}
use Rattle.fields.proofs.Fronts.{counts}
use Rattle.fields.proofs.count_rule.Goals as goal

pub returns-in_err-count_of : goal.returns-in_err-count_of
returns-in_err-count_of c = handed_on _ _ c.in_err-count_of.field-0.0 c.from_residual.ensures.1 (search (rules, counts, c.in_err-count_of.was))

pub returns : goal.returns
returns c = search (rules, counts, c.in_ok-count_of.was)
