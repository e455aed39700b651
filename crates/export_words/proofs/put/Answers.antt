-- `export_words::put` meets its contract: each case has its law.
use Rattle.std.proofs.Common.{rules}
use Rattle.export_words.proofs.Words.{puts}
use Rattle.export_words.proofs.put.Goals as goal

pub returns-then-answer-lt-ANSWER : goal.returns-then-answer-lt-ANSWER
returns-then-answer-lt-ANSWER c = search (rules, puts)

pub loop-k-preserved : goal.loop-k-preserved
loop-k-preserved c = search (rules, puts)

pub returns : goal.returns
returns c = search (rules, puts)
