-- `text::digit` meets its contract.
use Rattle.std.proofs.Common.{rules}
use Rattle.format.proofs.Tests.{tests}
use Rattle.text.specs.Spelled.{digit}
use Rattle.text.proofs.digit.Goals as goal

pub returns-then-d-lt10 : goal.returns-then-d-lt10
unfolding digit
returns-then-d-lt10 c = search (rules, tests)

pub returns-else-d-lt10 : goal.returns-else-d-lt10
unfolding digit
returns-else-d-lt10 c = search (rules, tests)
