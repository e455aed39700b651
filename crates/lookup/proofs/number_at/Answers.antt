-- `lookup::number_at` meets its contract.
use Rattle.std.proofs.Common.{rules}
use Rattle.format.proofs.Answers.{handed_on}
use Rattle.lookup.proofs.Finds.{answers}
use Rattle.lookup.proofs.number_at.Goals as goal

pub returns-in_err-looked : goal.returns-in_err-looked
returns-in_err-looked c = handed_on _ _ c.in_err-looked.field-0.0 c.from_residual.ensures.1 (search (rules, answers, c.in_err-looked.was))

pub returns-in-None : goal.returns-in-None
returns-in-None c = search (rules, answers, c.in_ok-looked.was)

pub returns-in-Some : goal.returns-in-Some
returns-in-Some c = search (rules, answers, c.in_ok-looked.was)
