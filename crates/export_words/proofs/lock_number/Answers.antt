-- `export_words::lock_number` meets its contract: each case by its number.
use Rattle.std.proofs.Common.{arith}
use Rattle.format.specs.Refusals.{number_of}
use Rattle.format.specs.Told.{told_lock}
use Rattle.export_words.specs.Words.{number_told}
use Rattle.export_words.proofs.lock_number.Goals as goal

pub returns-in-Height : goal.returns-in-Height
unfolding told_lock number_told number_of
returns-in-Height c = grind arith

pub returns-in_default : goal.returns-in_default
unfolding told_lock number_told number_of
returns-in_default c = grind (arith, c.in_default.not-Height, c.in_default.not-Time, c.in_default.not-Fallback)
