-- `export_words::put_lock` meets its contract: each case has its law.
use Rattle.std.proofs.Common.{rules}
use Rattle.export_words.proofs.Answers.{locks}
use Rattle.export_words.proofs.put_lock.Goals as goal

pub returns-in-Err : goal.returns-in-Err
returns-in-Err c = search (rules, locks)

pub returns-in-Ok : goal.returns-in-Ok
returns-in-Ok c = search (rules, locks)
