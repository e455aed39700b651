-- The refusals by number: the Rust's twenty in its order, then five for lent memory.
use Rattle.std.specs.Prelude.{ℕ}
use Rattle.format.specs.declared.PsbtError.{PsbtError}
use Rattle.format.specs.declared.PsbtError.TheVariants.{InvalidMagic, UnexpectedEof, InvalidCompactSize, MapTerminatorMissing, DuplicateKey}
use Rattle.format.specs.declared.PsbtError.TheVariants.{UnsortedKeys, BadValue, MissingCounts, MissingOutputIndex, MissingRedeemScript}
use Rattle.format.specs.declared.PsbtError.TheVariants.{MissingWitnessScript, CountsTooLarge, NotAllowed, OutOfRange, UnknownOutputType}
use Rattle.format.specs.declared.PsbtError.TheVariants.{Unsupported, MissingOutputScript, InvalidSilentPayment, InvalidOutputScripts}
use Rattle.format.specs.declared.PsbtError.TheVariants.{InvalidSighashType, TooLong, PairsFull, MapsFull, BadIndex, NoRoom}

-- the number that the paper gives a refusal
unfoldable pub number_of : PsbtError → ℕ
number_of InvalidMagic = 1
number_of UnexpectedEof = 2
number_of InvalidCompactSize = 3
number_of MapTerminatorMissing = 4
number_of DuplicateKey = 5
number_of UnsortedKeys = 6
number_of BadValue = 7
number_of MissingCounts = 8
number_of MissingOutputIndex = 9
number_of MissingRedeemScript = 10
number_of MissingWitnessScript = 11
number_of CountsTooLarge = 12
number_of NotAllowed = 13
number_of OutOfRange = 14
number_of UnknownOutputType = 15
number_of Unsupported = 16
number_of MissingOutputScript = 17
number_of InvalidSilentPayment = 18
number_of InvalidOutputScripts = 19
number_of InvalidSighashType = 20
number_of TooLong = 21
number_of PairsFull = 22
number_of MapsFull = 23
number_of BadIndex = 24
number_of NoRoom = 25
