-- `export_words::lock_words` meets its contract: each case by its words.
use Rattle.std.proofs.Common.{rules}
use Rattle.format.specs.Numbers.{unsigned}
use Rattle.format.specs.Told.{told_lock}
use Rattle.export_words.specs.Words.{words_told, words_of, word}
use Rattle.export_words.proofs.lock_words.Goals as goal

pub returns-in-Height : goal.returns-in-Height
unfolding told_lock words_told words_of word unsigned
returns-in-Height c = search rules

pub returns-in-Time : goal.returns-in-Time
unfolding told_lock words_told words_of word unsigned
returns-in-Time c = search rules

pub returns-in-Fallback : goal.returns-in-Fallback
unfolding told_lock words_told words_of word unsigned
returns-in-Fallback c = search rules

pub returns-in-BothKinds : goal.returns-in-BothKinds
unfolding told_lock words_told words_of word unsigned
returns-in-BothKinds c = search rules

pub returns-in-HeightTooGreat : goal.returns-in-HeightTooGreat
unfolding told_lock words_told words_of word unsigned
returns-in-HeightTooGreat c = search rules

pub returns-in-TimeTooSmall : goal.returns-in-TimeTooSmall
unfolding told_lock words_told words_of word unsigned
returns-in-TimeTooSmall c = search rules

pub returns-in-Malformed : goal.returns-in-Malformed
unfolding told_lock words_told words_of word unsigned
returns-in-Malformed c = search rules
