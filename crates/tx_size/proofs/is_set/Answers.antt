-- `tx_size::is_set` meets its contract.
use Rattle.std.proofs.Common.{rules}
use Rattle.tx_size.proofs.Scripts.{sets}
use Rattle.tx_size.proofs.is_set.Goals as goal

pub returns-then-not-is_empty : goal.returns-then-not-is_empty
returns-then-not-is_empty c = search (rules, sets)

pub returns-else-not-is_empty : goal.returns-else-not-is_empty
returns-else-not-is_empty c = search (rules, sets)
