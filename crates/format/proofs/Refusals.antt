-- The refusals count from 1 in their order.
use denote.Enum.Declared.{tag_of}
use mathlib.Core.Path.{◌≡◌, refl}
use Prim.Native.Nat.{◌+◌}
use Rattle.format.specs.Refusals.{number_of}
use Rattle.format.specs.contracts.PsbtError.{the_type}
use Rattle.format.specs.declared.PsbtError.{PsbtError}
use Rattle.format.specs.declared.PsbtError.TheVariants.{InvalidMagic, UnexpectedEof, InvalidCompactSize, MapTerminatorMissing, DuplicateKey}
use Rattle.format.specs.declared.PsbtError.TheVariants.{UnsortedKeys, BadValue, MissingCounts, MissingOutputIndex, MissingRedeemScript}
use Rattle.format.specs.declared.PsbtError.TheVariants.{MissingWitnessScript, CountsTooLarge, NotAllowed, OutOfRange, UnknownOutputType}
use Rattle.format.specs.declared.PsbtError.TheVariants.{Unsupported, MissingOutputScript, InvalidSilentPayment, InvalidOutputScripts, InvalidSighashType}
use Rattle.format.specs.declared.PsbtError.TheVariants.{TooLong, PairsFull, MapsFull, BadIndex, NoRoom}

pub counts_from_one : (e : PsbtError) → tag_of the_type e + 1 ≡ number_of e
unfolding number_of
counts_from_one InvalidMagic = refl
counts_from_one UnexpectedEof = refl
counts_from_one InvalidCompactSize = refl
counts_from_one MapTerminatorMissing = refl
counts_from_one DuplicateKey = refl
counts_from_one UnsortedKeys = refl
counts_from_one BadValue = refl
counts_from_one MissingCounts = refl
counts_from_one MissingOutputIndex = refl
counts_from_one MissingRedeemScript = refl
counts_from_one MissingWitnessScript = refl
counts_from_one CountsTooLarge = refl
counts_from_one NotAllowed = refl
counts_from_one OutOfRange = refl
counts_from_one UnknownOutputType = refl
counts_from_one Unsupported = refl
counts_from_one MissingOutputScript = refl
counts_from_one InvalidSilentPayment = refl
counts_from_one InvalidOutputScripts = refl
counts_from_one InvalidSighashType = refl
counts_from_one TooLong = refl
counts_from_one PairsFull = refl
counts_from_one MapsFull = refl
counts_from_one BadIndex = refl
counts_from_one NoRoom = refl
