-- `lock_lines::put_lock_text` meets its contract.
use Rattle.std.proofs.Common.{rules}
use Rattle.lock_lines.proofs.Answers.{lock_numbers}
use Rattle.lock_lines.proofs.put_lock_text.Goals as goal

pub returns-then-n-eq0 : goal.returns-then-n-eq0
returns-then-n-eq0 c = search (rules, lock_numbers)

pub returns-then-n-lt-THRESHOLD : goal.returns-then-n-lt-THRESHOLD
returns-then-n-lt-THRESHOLD c = search (rules, lock_numbers)

pub returns : goal.returns
returns c = search (rules, lock_numbers)
