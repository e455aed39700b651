-- `lock::height_lock` meets its contract.
use Rattle.std.proofs.Common.{rules}
use Rattle.lock.proofs.Locks.{judged}
use Rattle.lock.proofs.height_lock.Goals as goal

pub returns-then-number-lt-THRESHOLD : goal.returns-then-number-lt-THRESHOLD
returns-then-number-lt-THRESHOLD c = search (rules, judged)

pub returns-else-number-lt-THRESHOLD : goal.returns-else-number-lt-THRESHOLD
returns-else-number-lt-THRESHOLD c = search (rules, judged)
