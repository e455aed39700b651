-- `lock_lines::put_fallback` meets its contract.
use Rattle.std.proofs.Common.{rules}
use Rattle.lock_lines.proofs.Answers.{fallback_by}
use Rattle.lock_lines.specs.Lines.{fallback_text}
use Rattle.lock_lines.proofs.put_fallback.Goals as goal

pub returns-in-None : goal.returns-in-None
unfolding fallback_text
returns-in-None c = search (rules, fallback_by)

pub returns-in-Some : goal.returns-in-Some
unfolding fallback_text
returns-in-Some c = search (rules, fallback_by)
