-- `stop_lines::is_one_of` meets its contract.
use Rattle.std.proofs.Common.{rules}
use Rattle.stop_lines.proofs.Places.{two_refusals}
use Rattle.stop_lines.proofs.is_one_of.Goals as goal

pub returns-then-n-number : goal.returns-then-n-number
returns-then-n-number c = search (rules, two_refusals)

pub returns-else-n-number : goal.returns-else-n-number
returns-else-n-number c = search (rules, two_refusals)
