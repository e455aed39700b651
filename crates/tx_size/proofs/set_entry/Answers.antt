-- `tx_size::set_entry` meets its contract.
use Rattle.std.proofs.Common.{rules}
use Rattle.tx_size.proofs.Scripts.{entries_set}
use Rattle.tx_size.proofs.set_entry.Goals as goal

pub returns-then-state : goal.returns-then-state
returns-then-state c = search (rules, entries_set)

pub returns-else-state : goal.returns-else-state
returns-else-state c = search (rules, entries_set)
