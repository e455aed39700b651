-- `lock_lines::put_lack` meets its contract.
use Rattle.std.proofs.Common.{rules}
use Rattle.lock_lines.proofs.Answers.{lacks}
use Rattle.lock_lines.proofs.put_lack.Goals as goal

pub returns-then-number : goal.returns-then-number
returns-then-number c = search (rules, lacks)

pub returns : goal.returns
returns c = search (rules, lacks)
