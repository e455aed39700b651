-- `export_words::put_no_report` meets its contract.
use Rattle.std.proofs.Common.{rules}
use Rattle.export_words.specs.Words.{no_report}
use Rattle.export_words.proofs.put_no_report.Goals as goal

pub returns : goal.returns
unfolding no_report
returns c = search rules
