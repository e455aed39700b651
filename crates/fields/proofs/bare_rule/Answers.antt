-- `fields::bare_rule` meets its contract: each way out has its law.
use Rattle.std.proofs.Common.{rules}
use Rattle.fields.proofs.Fronts.{bares}
use Rattle.fields.proofs.bare_rule.Goals as goal

pub returns-then-key_type-eq-PSBT_GLOBAL_UNSIGNED_TX : goal.returns-then-key_type-eq-PSBT_GLOBAL_UNSIGNED_TX
returns-then-key_type-eq-PSBT_GLOBAL_UNSIGNED_TX c = search (rules, bares)

pub returns-then-is_count : goal.returns-then-is_count
returns-then-is_count c = search (rules, bares)

pub returns-else-is_count : goal.returns-else-is_count
returns-else-is_count c = search (rules, bares)
