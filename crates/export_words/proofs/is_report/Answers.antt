-- `export_words::is_report` meets its contract: it is told by the first word.
use Rattle.std.proofs.Common.{rules}
use Rattle.export_words.proofs.Words.{reported}
use Rattle.export_words.proofs.is_report.Goals as goal

pub returns : goal.returns
returns c = search (rules, reported)
