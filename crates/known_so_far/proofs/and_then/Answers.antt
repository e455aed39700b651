-- `known_so_far::and_then` is the definition's, by the case.
use Rattle.std.proofs.Common.{rules}
use Rattle.format.proofs.Answers.{handed_on}
use Rattle.known_so_far.proofs.Ends.{thens}
use Rattle.known_so_far.proofs.and_then.Goals as goal

pub returns-in_err-a : goal.returns-in_err-a
returns-in_err-a c = handed_on _ _ c.in_err-a.field-0.0 c.from_residual.ensures.1 (search (rules, thens, c.in_err-a.was))

pub returns : goal.returns
returns c = search (rules, thens, c.in_ok-a.was)
