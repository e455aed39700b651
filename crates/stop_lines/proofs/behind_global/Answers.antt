-- `stop_lines::behind_global` meets its contract.
use Rattle.std.proofs.Common.{rules}
use Rattle.format.proofs.Tests.{tests}
use Rattle.stop_lines.specs.Stops.{behind_global}
use Rattle.stop_lines.proofs.behind_global.Goals as goal

pub returns-then-i-ins : goal.returns-then-i-ins
unfolding behind_global
returns-then-i-ins c = search (rules, tests)

pub returns-then-j-outs : goal.returns-then-j-outs
unfolding behind_global
returns-then-j-outs c = search (rules, tests)

pub returns : goal.returns
unfolding behind_global
returns c = search (rules, tests)
