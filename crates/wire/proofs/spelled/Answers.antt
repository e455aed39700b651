-- `wire::spelled` meets its contract: the definition's test is the code's.
use Rattle.std.proofs.Common.{rules}
use Rattle.format.proofs.Tests.{tests}
use Rattle.wire.specs.Leads.{spelled}
use Rattle.wire.proofs.spelled.Goals as goal

pub returns-then-used-len : goal.returns-then-used-len
unfolding spelled
returns-then-used-len c = search (rules, tests)

pub returns-else-used-len : goal.returns-else-used-len
unfolding spelled
returns-else-used-len c = search (rules, tests)
