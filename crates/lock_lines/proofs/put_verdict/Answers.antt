-- `lock_lines::put_verdict` meets its contract.
use Rattle.std.proofs.Common.{rules}
use Rattle.lock_lines.specs.Lines.{verdict}
use Rattle.lock_lines.proofs.Answers.{verdict_by}
use Rattle.lock_lines.proofs.put_verdict.Goals as goal

pub returns-in-Err : goal.returns-in-Err
unfolding verdict
returns-in-Err c = search (rules, verdict_by)

pub returns-in-Ok-Height : goal.returns-in-Ok-Height
unfolding verdict
returns-in-Ok-Height c = search (rules, verdict_by)

pub returns-in-Ok-Time : goal.returns-in-Ok-Time
unfolding verdict
returns-in-Ok-Time c = search (rules, verdict_by)

pub returns-in-Ok-Fallback : goal.returns-in-Ok-Fallback
unfolding verdict
returns-in-Ok-Fallback c = search (rules, verdict_by)

pub returns-in-Ok-BothKinds : goal.returns-in-Ok-BothKinds
unfolding verdict
returns-in-Ok-BothKinds c = search (rules, verdict_by)

pub returns-in-Ok-HeightTooGreat : goal.returns-in-Ok-HeightTooGreat
unfolding verdict
returns-in-Ok-HeightTooGreat c = search (rules, verdict_by)

pub returns-in-Ok-TimeTooSmall : goal.returns-in-Ok-TimeTooSmall
unfolding verdict
returns-in-Ok-TimeTooSmall c = search (rules, verdict_by)

pub returns-in-Ok-Malformed : goal.returns-in-Ok-Malformed
unfolding verdict
returns-in-Ok-Malformed c = search (rules, verdict_by)
