-- `export_words::utxo_words` meets its contract: each case by its words.
use Rattle.std.proofs.Common.{rules}
use Rattle.format.specs.Numbers.{unsigned}
use Rattle.format.specs.Told.{told_utxo}
use Rattle.export_words.specs.Words.{words_told, words_of, word}
use Rattle.export_words.proofs.utxo_words.Goals as goal

pub returns-in-None : goal.returns-in-None
unfolding told_utxo words_told words_of word unsigned
returns-in-None c = search rules

pub returns-in-Some : goal.returns-in-Some
unfolding told_utxo words_told words_of word unsigned
returns-in-Some c = search rules
