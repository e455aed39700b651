-- `fields::is_count` meets its contract: each way out by its tests.
use Rattle.std.proofs.Common.{rules}
use Rattle.format.proofs.Tests.{tests}
use Rattle.fields.specs.Fronts.{is_count}
use Rattle.fields.proofs.is_count.Goals as goal

pub returns-then-key_type-eq-PSBT_GLOBAL_INPUT_COUNT : goal.returns-then-key_type-eq-PSBT_GLOBAL_INPUT_COUNT
unfolding is_count
returns-then-key_type-eq-PSBT_GLOBAL_INPUT_COUNT c = search (rules, tests)

pub returns-else-key_type-eq-PSBT_GLOBAL_INPUT_COUNT : goal.returns-else-key_type-eq-PSBT_GLOBAL_INPUT_COUNT
unfolding is_count
returns-else-key_type-eq-PSBT_GLOBAL_INPUT_COUNT c = search (rules, tests)
