-- `export_words::put_parsed` meets its contract: each case has its law.
use Rattle.std.proofs.Common.{rules}
use Rattle.export_words.proofs.Answers.{parseds}
use Rattle.export_words.proofs.put_parsed.Goals as goal

pub returns-in-Refused : goal.returns-in-Refused
returns-in-Refused c = search (rules, parseds)
