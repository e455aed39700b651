-- `export_words::put_accepted` meets its contract: each case has its law.
use Rattle.std.proofs.Common.{rules}
use Rattle.export_words.proofs.Answers.{parseds}
use Rattle.export_words.proofs.put_accepted.Goals as goal

pub returns : goal.returns
returns c = search (rules, parseds)
