-- `setter::state_after` meets its contract.
use Rattle.std.proofs.Common.{rules}
use Rattle.format.proofs.Tests.{tests}
use Rattle.setter.specs.Fills.{state_after}
use Rattle.setter.proofs.state_after.Goals as goal

pub returns-then-outputs-eq0 : goal.returns-then-outputs-eq0
unfolding state_after
returns-then-outputs-eq0 c = search (rules, tests)

pub returns : goal.returns
unfolding state_after
returns c = search (rules, tests)
