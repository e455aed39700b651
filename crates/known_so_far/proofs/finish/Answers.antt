-- `known_so_far::finish` ends a file.
use Rattle.std.proofs.Common.{rules}
use Rattle.format.proofs.Answers.{handed_on}
use Rattle.known_so_far.proofs.Ends.{finishes}
use Rattle.known_so_far.proofs.finish.Goals as goal

pub returns-then-left : goal.returns-then-left
returns-then-left c = search (rules, finishes)

pub returns-in_err-ruled : goal.returns-in_err-ruled
returns-in_err-ruled c = handed_on _ _ c.in_err-ruled.field-0.0 c.from_residual.ensures.1 (search (rules, finishes, c.in_err-ruled.was))

pub returns : goal.returns
returns c = search (rules, finishes, c.in_ok-ruled.was)
