-- `lock_lines::put_height` meets its contract.
use Rattle.std.proofs.Common.{rules}
use Rattle.lock_lines.proofs.Answers.{height_by_lem}
use Rattle.lock_lines.specs.Lines.{height_text}
use Rattle.lock_lines.proofs.put_height.Goals as goal

pub returns-in-Err : goal.returns-in-Err
unfolding height_text
returns-in-Err c = search (rules, height_by_lem)

pub returns-in-Ok-None : goal.returns-in-Ok-None
unfolding height_text
returns-in-Ok-None c = search (rules, height_by_lem)

pub returns-in-Ok-Some : goal.returns-in-Ok-Some
unfolding height_text
returns-in-Ok-Some c = search (rules, height_by_lem)
