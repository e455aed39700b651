-- `export_words::nth_words` meets its contract: each case by its words.
use Rattle.std.proofs.Common.{rules}
use Rattle.format.specs.Numbers.{unsigned}
use Rattle.format.specs.Told.{told_nth}
use Rattle.export_words.specs.Words.{words_told, words_of, word}
use Rattle.export_words.proofs.nth_words.Goals as goal

pub returns : goal.returns
unfolding told_nth words_told words_of word unsigned
returns c = search rules
