-- `lock::time_lock` meets its contract.
use Rattle.std.proofs.Common.{rules}
use Rattle.lock.proofs.Locks.{judged}
use Rattle.lock.proofs.time_lock.Goals as goal

pub returns-then-number-ge-THRESHOLD : goal.returns-then-number-ge-THRESHOLD
returns-then-number-ge-THRESHOLD c = search (rules, judged)

pub returns-else-number-ge-THRESHOLD : goal.returns-else-number-ge-THRESHOLD
returns-else-number-ge-THRESHOLD c = search (rules, judged)
