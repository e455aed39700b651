-- `known_so_far::after_map` says what follows a map.
use Rattle.std.proofs.Common.{rules}
use Rattle.format.proofs.Answers.{handed_on}
use Rattle.known_so_far.proofs.Ends.{afters}
use Rattle.known_so_far.proofs.after_map.Goals as goal

pub returns-in_err-closed : goal.returns-in_err-closed
returns-in_err-closed c = handed_on _ _ c.in_err-closed.field-0.0 c.from_residual.ensures.1 (search (rules, afters, c.in_err-closed.was))

pub returns : goal.returns
returns c = search (rules, afters, c.in_ok-closed.was)
