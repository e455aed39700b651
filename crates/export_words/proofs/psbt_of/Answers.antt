-- `export_words::psbt_of` meets its contract: each case has its law.
use Rattle.std.proofs.Common.{rules}
use Rattle.export_words.proofs.Words.{reports}
use Rattle.export_words.proofs.psbt_of.Goals as goal

pub returns : goal.returns
returns c = search (rules, reports)
