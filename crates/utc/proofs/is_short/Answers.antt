-- `utc::is_short` meets its contract.
use Rattle.std.proofs.Common.{rules}
use Rattle.format.proofs.Tests.{tests}
use Rattle.utc.specs.Dates.{is_short}
use Rattle.utc.proofs.is_short.Goals as goal

pub returns-in-4 : goal.returns-in-4
unfolding is_short
returns-in-4 c = search (rules, tests)

pub returns-in_default : goal.returns-in_default
unfolding is_short
returns-in_default c = search (rules, tests)
