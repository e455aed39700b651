-- `lock_lines::put_time` meets its contract.
use Rattle.std.proofs.Common.{rules}
use Rattle.lock_lines.proofs.Answers.{time_by_lem}
use Rattle.lock_lines.specs.Lines.{time_text}
use Rattle.lock_lines.proofs.put_time.Goals as goal

pub returns-in-Err : goal.returns-in-Err
unfolding time_text
returns-in-Err c = search (rules, time_by_lem)

pub returns-in-Ok-None : goal.returns-in-Ok-None
unfolding time_text
returns-in-Ok-None c = search (rules, time_by_lem)

pub returns-in-Ok-Some : goal.returns-in-Ok-Some
unfolding time_text
returns-in-Ok-Some c = search (rules, time_by_lem)
