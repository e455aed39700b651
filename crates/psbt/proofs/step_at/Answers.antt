-- `psbt::step_at` is one step at a place of the file.
use Rattle.std.proofs.Common.{rules}
use Rattle.format.proofs.Answers.{handed_on}
use Rattle.psbt.proofs.Steps.{steps}
use Rattle.psbt.proofs.step_at.Goals as goal

pub returns-in_err-used : goal.returns-in_err-used
returns-in_err-used c = handed_on _ _ c.in_err-used.field-0.0 c.from_residual.ensures.1 (search (rules, steps, c.in_err-used.was))

pub overflow_add-result : goal.overflow_add-result
overflow_add-result c = search (rules, steps, c.in_ok-used.was)

pub overflow_add-result-in-One : goal.overflow_add-result-in-One
overflow_add-result-in-One c = search (rules, steps, c.in_ok-used.was)

pub overflow_add-result-in-One-2 : goal.overflow_add-result-in-One-2
overflow_add-result-in-One-2 c = search (rules, steps, c.in_ok-used.was)

pub returns-in-Over : goal.returns-in-Over
returns-in-Over c = search (rules, steps)

pub returns-in-One : goal.returns-in-One
returns-in-One c = search (rules, steps)
