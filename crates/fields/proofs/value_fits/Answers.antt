-- `fields::value_fits` meets its contract: each way out by its tests.
use Rattle.std.proofs.Common.{rules}
use Rattle.format.specs.Rules.{value_fits}
use Rattle.format.proofs.Tests.{tests}
use Rattle.fields.proofs.value_fits.Goals as goal

pub returns-then-asked-ne-ORIGIN : goal.returns-then-asked-ne-ORIGIN
unfolding value_fits
returns-then-asked-ne-ORIGIN c = search (rules, tests)

pub returns-then-value_len-ge4 : goal.returns-then-value_len-ge4
unfolding value_fits
returns-then-value_len-ge4 c = search (rules, tests)

pub returns-else-value_len-ge4 : goal.returns-else-value_len-ge4
unfolding value_fits
returns-else-value_len-ge4 c = search (rules, tests)
