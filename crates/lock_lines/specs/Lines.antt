-- Lines about the lock, in ASCII. A line ends with a newline.
use Rattle.std.specs.Prelude.{ℕ, List, ◌++◌, ltb, eqb, Ok, Err, Some, None}
use Rattle.format.specs.Tests.{pick}
use Rattle.format.specs.Refusals.{number_of}
use Rattle.format.specs.Locks.{threshold}
use Rattle.format.specs.declared.PsbtError.{PsbtError}
use Rattle.format.specs.declared.PsbtError.TheVariants.{BadValue}
use Rattle.format.specs.Answers.{Decided, Maybe, Numbered, UnsignedTx}
use Rattle.format.specs.declared.Lock.TheVariants as L
use Rattle.text.specs.Say.{say, newline}
use Rattle.text.specs.Spelled.{decimal}
use Rattle.utc.specs.Dates.{date_text}
use Rattle.reasons.specs.Reasons.{say_refused, say_that, meaning, refused_line}

-- a height
unfoldable pub height_number : ℕ → List ℕ
height_number n = say "height " ++ decimal n

-- a time, and the date that it is
unfoldable pub time_number : ℕ → List ℕ
time_number n = say "time " ++ (decimal n ++ (say " (" ++ (date_text n ++ say ")")))

-- the lock number 0
abbrev pub say_none : List ℕ
say_none = say "time 0: none"

-- a lock number as the network reads it: none, a height or a time
unfoldable pub lock_text : ℕ → List ℕ
lock_text n = pick (eqb n 0) say_none (pick (ltb n threshold) (height_number n) (time_number n))

-- the fallback
unfoldable pub fallback_text : Maybe → List ℕ
fallback_text None = say "none"
fallback_text (Some n) = lock_text n

-- the first line: how many inputs, and the fallback
unfoldable pub head_line : ℕ → Maybe → List ℕ
head_line n m = say "inputs " ++ (decimal n ++ (say ", fallback " ++ (fallback_text m ++ newline)))

-- the height that an input asks for
unfoldable pub height_text : Numbered → List ℕ
height_text (Err e) = say "an unreadable height"
height_text (Ok None) = say "no height"
height_text (Ok (Some n)) = height_number n

-- the time that an input asks for
unfoldable pub time_text : Numbered → List ℕ
time_text (Err e) = say "an unreadable time"
time_text (Ok None) = say "no time"
time_text (Ok (Some n)) = time_number n

-- an input, by its number
abbrev pub input_name : ℕ → List ℕ
input_name i = say "input " ++ decimal i

-- what input number i asks for
unfoldable pub input_line : ℕ → Numbered → Numbered → List ℕ
input_line i h t = input_name i ++ (say " asks " ++ (height_text h ++ (say " and " ++ (time_text t ++ newline))))

-- what a refusal for a missing field means once the lock is decided
abbrev pub say_lack : List ℕ
say_lack = say "an input has no txid or no index, or an output no amount"

-- what keeps a transaction from being given once the lock is decided: a bad value is a missing field then
unfoldable pub lack_text : PsbtError → List ℕ
lack_text e = pick (eqb (number_of e) (number_of BadValue)) say_lack (meaning e)

-- before the refusal's number
abbrev pub say_no_tx : List ℕ
say_no_tx = say "no transaction, refused "

-- before the transaction's length
abbrev pub say_tx : List ℕ
say_tx = say "transaction of "

-- behind it
abbrev pub say_bytes : List ℕ
say_bytes = say " bytes\n"

-- whether a transaction is given
unfoldable pub tx_line : UnsignedTx → List ℕ
tx_line (Err e) = say_no_tx ++ (decimal (number_of e) ++ (say_that ++ (lack_text e ++ newline)))
tx_line (Ok w) = say_tx ++ (decimal w.len ++ say_bytes)

-- the lock time that was decided, and whether a transaction is given
unfoldable pub outcome : ℕ → UnsignedTx → List ℕ
outcome n x = say "lock " ++ (lock_text n ++ (newline ++ tx_line x))

-- nothing was asked for
unfoldable pub fallback_decided : ℕ → UnsignedTx → List ℕ
fallback_decided n x = say "no input asks for a lock: the fallback decides\n" ++ outcome n x

-- what input i asked for decided: said so, and the outcome
abbrev pub decided : List ℕ → ℕ → ℕ → UnsignedTx → List ℕ
decided says n i x = says ++ (input_name i ++ (newline ++ outcome n x))

-- heights were asked for, the greatest by input i
unfoldable pub height_decided : ℕ → ℕ → UnsignedTx → List ℕ
height_decided n i x = decided (say "the greatest height asked decides: ") n i x

-- times were asked for, the greatest by input i
unfoldable pub time_decided : ℕ → ℕ → UnsignedTx → List ℕ
time_decided n i x = decided (say "the greatest time asked decides: ") n i x

-- how a line ends that says why a lock is refused
abbrev pub refused_end : List ℕ
refused_end = say_that ++ (say_refused ++ (decimal (number_of BadValue) ++ newline))

-- both kinds were asked for
unfoldable pub both_line : ℕ → ℕ → List ℕ
both_line h t = input_name h ++ (say " asks a height and " ++ (input_name t ++ (say " asks a time" ++ refused_end)))

-- the number that input i asks for would be read as the other kind
abbrev pub misread : List ℕ → List ℕ → ℕ → ℕ → List ℕ
misread asks reads n i = input_name i ++ (asks ++ (decimal n ++ (reads ++ refused_end)))

-- the greatest height is no height
unfoldable pub too_great_line : ℕ → ℕ → List ℕ
too_great_line n i = misread (say " asks height ") (say ", which is not below " ++ (decimal threshold ++ say " and would be read as a time")) n i

-- the greatest time is no time: a fallen clock
unfoldable pub too_small_line : ℕ → ℕ → List ℕ
too_small_line n i = misread (say " asks time ") (say ", which is below " ++ (decimal threshold ++ say " and would be read as a block height")) n i

-- a lock field of a wrong length
unfoldable pub malformed_line : ℕ → List ℕ
malformed_line i = input_name i ++ (say " asks a height or a time of a wrong length" ++ refused_end)

-- the verdict, by what decided the lock; with a lock, the transaction's answer too
unfoldable pub verdict : Decided → UnsignedTx → List ℕ
verdict (Err e) x = refused_line e
verdict (Ok (L.Height n i)) x = height_decided n i x
verdict (Ok (L.Time n i)) x = time_decided n i x
verdict (Ok (L.Fallback n)) x = fallback_decided n x
verdict (Ok (L.BothKinds h t)) x = both_line h t
verdict (Ok (L.HeightTooGreat n i)) x = too_great_line n i
verdict (Ok (L.TimeTooSmall n i)) x = too_small_line n i
verdict (Ok (L.Malformed i)) x = malformed_line i
