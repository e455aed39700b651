-- `fitness::not_listed` meets its contract.
use Rattle.std.proofs.Common.{rules}
use Rattle.format.proofs.Tests.{tests}
use Rattle.fitness.specs.Fits.{not_listed}
use Rattle.fitness.proofs.not_listed.Goals as goal

pub returns-then-reported : goal.returns-then-reported
unfolding not_listed
returns-then-reported c = search (rules, tests)

pub returns-else-reported : goal.returns-else-reported
unfolding not_listed
returns-else-reported c = search (rules, tests)
