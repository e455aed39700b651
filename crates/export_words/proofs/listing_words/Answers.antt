-- `export_words::listing_words` meets its contract: each case by its words.
use Rattle.std.proofs.Common.{rules}
use Rattle.format.specs.Numbers.{unsigned}
use Rattle.format.specs.Told.{told_listing}
use Rattle.export_words.specs.Words.{words_told, words_of, word}
use Rattle.export_words.proofs.listing_words.Goals as goal

pub returns : goal.returns
unfolding told_listing words_told words_of word unsigned
returns c = search rules
