-- `export_words::script_words` meets its contract: each case by its words.
use Rattle.std.proofs.Common.{rules}
use Rattle.format.specs.Numbers.{unsigned}
use Rattle.format.specs.Told.{told_script}
use Rattle.export_words.specs.Words.{words_told, words_of, word}
use Rattle.export_words.proofs.script_words.Goals as goal

pub returns-in-None : goal.returns-in-None
unfolding told_script words_told words_of word unsigned
returns-in-None c = search rules

pub returns-in-Some-InFile : goal.returns-in-Some-InFile
unfolding told_script words_told words_of word unsigned
returns-in-Some-InFile c = search rules

pub returns-in-Some-InTable : goal.returns-in-Some-InTable
unfolding told_script words_told words_of word unsigned
returns-in-Some-InTable c = search rules
