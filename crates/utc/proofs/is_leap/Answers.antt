-- `utc::is_leap` meets its contract.
use Rattle.std.proofs.Common.{rules}
use Rattle.format.proofs.Tests.{tests}
use Rattle.utc.specs.Dates.{leap}
use Rattle.utc.proofs.is_leap.Goals as goal

pub returns-then-y-eq0 : goal.returns-then-y-eq0
unfolding leap
returns-then-y-eq0 c = search (rules, tests)

pub returns-then-y-ne0 : goal.returns-then-y-ne0
unfolding leap
returns-then-y-ne0 c = search (rules, tests)

pub returns-else-y-ne0 : goal.returns-else-y-ne0
unfolding leap
returns-else-y-ne0 c = search (rules, tests)
