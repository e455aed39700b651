-- `export_words::tx_words` meets its contract: each case by its words.
use Rattle.std.proofs.Common.{rules}
use Rattle.format.specs.Numbers.{unsigned}
use Rattle.format.specs.Told.{told_tx}
use Rattle.export_words.specs.Words.{words_told, words_of, word}
use Rattle.export_words.proofs.tx_words.Goals as goal

pub returns : goal.returns
unfolding told_tx words_told words_of word unsigned
returns c = search rules
