-- `lock::fault_at` meets its contract.
use Rattle.std.proofs.Common.{rules}
use Rattle.lock.proofs.Wishes.{faults}
use Rattle.lock.proofs.fault_at.Goals as goal

pub returns-then-is_wrong-2 : goal.returns-then-is_wrong-2
returns-then-is_wrong-2 c = search (rules, faults)

pub returns-else-is_none : goal.returns-else-is_none
returns-else-is_none c = search (rules, faults)
