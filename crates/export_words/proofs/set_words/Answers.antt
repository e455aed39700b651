-- `export_words::set_words` meets its contract: each case by its words.
use Rattle.std.proofs.Common.{rules}
use Rattle.format.specs.Numbers.{unsigned}
use Rattle.format.specs.Told.{told_set}
use Rattle.export_words.specs.Words.{words_told, words_of, word}
use Rattle.export_words.proofs.set_words.Goals as goal

pub returns : goal.returns
unfolding told_set words_told words_of word unsigned
returns c = search rules
