-- Computed examples of choices, and the number of every refusal.
use Rattle.std.specs.Prelude.{ℕ, refl, Bool, true, false, List, [], ◌∷◌, ltb}
use Rattle.format.specs.Rows.{Row, is, Hold}
use Rattle.format.specs.Refusals.{number_of}
use Rattle.format.specs.Tests.{pick, keep_if, only, every}
use Rattle.format.specs.declared.PsbtError.TheVariants.{InvalidMagic, UnexpectedEof, InvalidCompactSize, MapTerminatorMissing, DuplicateKey}
use Rattle.format.specs.declared.PsbtError.TheVariants.{UnsortedKeys, BadValue, MissingCounts, MissingOutputIndex, MissingRedeemScript}
use Rattle.format.specs.declared.PsbtError.TheVariants.{MissingWitnessScript, CountsTooLarge, NotAllowed, OutOfRange, UnknownOutputType}
use Rattle.format.specs.declared.PsbtError.TheVariants.{Unsupported, MissingOutputScript, InvalidSilentPayment, InvalidOutputScripts}
use Rattle.format.specs.declared.PsbtError.TheVariants.{InvalidSighashType, TooLong, PairsFull, MapsFull, BadIndex, NoRoom}

-- a number below 5
abbrev small : ℕ → Bool
small n = ltb n 5

-- the numbers of a list that are small, in order
unfoldable pub kept : List (Row (List ℕ))
kept =
    is (pick true (1 ∷ []) (2 ∷ [])) (1 ∷ [])
    ∷ is (pick false (1 ∷ []) (2 ∷ [])) (2 ∷ [])
    ∷ is (keep_if true 1 (2 ∷ [])) (1 ∷ 2 ∷ [])
    ∷ is (keep_if false 1 (2 ∷ [])) (2 ∷ [])
    ∷ is (only small []) []
    ∷ is (only small (4 ∷ 5 ∷ 3 ∷ 9 ∷ 3 ∷ [])) (4 ∷ 3 ∷ 3 ∷ [])
    ∷ is (only small (5 ∷ 9 ∷ [])) []
    ∷ []

-- those are kept
pub choices_keep : Hold kept
unfolding kept only
choices_keep = refl

-- whether all numbers of a list are small
unfoldable pub all_small : List (Row Bool)
all_small =
    is (every small []) true
    ∷ is (every small (4 ∷ 0 ∷ [])) true
    ∷ is (every small (5 ∷ 0 ∷ [])) false
    ∷ is (every small (0 ∷ 5 ∷ [])) false
    ∷ is (every small (5 ∷ 5 ∷ [])) false
    ∷ []

-- one that is not decides, wherever it stands
pub every_asks_all : Hold all_small
unfolding all_small every
every_asks_all = refl

-- the refusals, those that nothing gives too
unfoldable pub numbers : List (Row ℕ)
numbers =
    is (number_of InvalidMagic) 1
    ∷ is (number_of UnexpectedEof) 2
    ∷ is (number_of InvalidCompactSize) 3
    ∷ is (number_of MapTerminatorMissing) 4
    ∷ is (number_of DuplicateKey) 5
    ∷ is (number_of UnsortedKeys) 6
    ∷ is (number_of BadValue) 7
    ∷ is (number_of MissingCounts) 8
    ∷ is (number_of MissingOutputIndex) 9
    ∷ is (number_of MissingRedeemScript) 10
    ∷ is (number_of MissingWitnessScript) 11
    ∷ is (number_of CountsTooLarge) 12
    ∷ is (number_of NotAllowed) 13
    ∷ is (number_of OutOfRange) 14
    ∷ is (number_of UnknownOutputType) 15
    ∷ is (number_of Unsupported) 16
    ∷ is (number_of MissingOutputScript) 17
    ∷ is (number_of InvalidSilentPayment) 18
    ∷ is (number_of InvalidOutputScripts) 19
    ∷ is (number_of InvalidSighashType) 20
    ∷ is (number_of TooLong) 21
    ∷ is (number_of PairsFull) 22
    ∷ is (number_of MapsFull) 23
    ∷ is (number_of BadIndex) 24
    ∷ is (number_of NoRoom) 25
    ∷ []

-- each has its number
pub refusals_numbered : Hold numbers
unfolding numbers number_of
refusals_numbered = refl
