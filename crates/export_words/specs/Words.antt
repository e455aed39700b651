-- Answers as words in a lent slice, for callers from other languages.
use Rattle.std.specs.Prelude.{ℕ, ◌^◌, ◌-◌, ◌%◌, Bool, not, List, [], ◌∷◌, ◌++◌, map, leb, eqb, length, take, drop, replicate, get_or, Option, Some, None}
use Rattle.format.specs.Tests.{pick}
use Rattle.format.specs.Numbers.{signed, unsigned}
use Rattle.format.specs.Refusals.{number_of}
use Rattle.format.specs.Told.{Value, none, int, flag, Told, told, ToldParse, told_with, ToldOut, told_left}
use Rattle.format.specs.declared.PsbtError.TheVariants.{BadIndex, NoRoom}
use Rattle.format.specs.Answers.{Maybe}
use Rattle.format.specs.declared.Psbt.{Psbt}
use Rattle.format.specs.declared.State.{State}

-- how many words an answer takes: how many values there are, and room for seven of them
abbrev pub answer_words : ℕ
answer_words = 8

-- the word of a value that is absent
abbrev pub no_value : ℕ
no_value = 2 ^ 64 - 1

-- a value's word: a negative number by its 32 bits, a yes or no as 1 or 0
unfoldable pub word : Value → ℕ
word none = no_value
word (int z) = unsigned z
word (flag b) = pick b 1 0

-- an answer's words: how many values there are, the values, and zeros
unfoldable pub words_of : List Value → List ℕ
words_of vs = length vs ∷ take 7 (map word vs ++ replicate 7 0)

-- a number, and the lent slice as it is left
pub data Export : Type 0 where
  exported : ℕ → List ℕ → Export

-- a number with its words at the front of the slice; 25 where the slice is short, which then stays
unfoldable pub answered_with : List ℕ → ℕ → List ℕ → Export
answered_with A n ws = pick (leb answer_words (length A)) (exported n (ws ++ drop answer_words A)) (exported (number_of NoRoom) A)

-- what is told, in the slice
unfoldable pub answered : List ℕ → Told → Export
answered A (told n vs) = answered_with A n (words_of vs)

-- the words of what is told
unfoldable pub words_told : Told → List ℕ
words_told (told n vs) = words_of vs

-- the number of what is told
unfoldable pub number_told : Told → ℕ
number_told (told n vs) = n

-- a number that may be absent, by its word
unfoldable pub maybe_of : ℕ → Maybe
maybe_of w = pick (eqb w no_value) None (Some (w % 2 ^ 32))

-- what the words of a parse report; a word that isn't there counts as 0
unfoldable pub psbt_in : List ℕ → Psbt
psbt_in R =
    record {
      tx_version = signed (get_or R 1 0 % 2 ^ 32);
      fallback_locktime = maybe_of (get_or R 2 0);
      tx_modifiable = maybe_of (get_or R 3 0);
      inputs = get_or R 4 0;
      outputs = get_or R 5 0;
    }

-- how many values an accepted parse tells
abbrev pub report_values : ℕ
report_values = 7

-- words are a report, those of an accepted parse: the first counts its values
unfoldable pub is_report : List ℕ → Bool
is_report R = eqb (get_or R 0 0) report_values

-- what words report, where they are a report
unfoldable pub report_in : List ℕ → Option Psbt
report_in R = pick (is_report R) (Some (psbt_in R)) None

-- what every call that takes a report tells where the words are none, before all else: 24
unfoldable pub no_report : Told
no_report = told (number_of BadIndex) []

-- a state by two numbers, where all but 0 means yes
unfoldable pub state_of : ℕ → ℕ → State
state_of set written = record { set = not (eqb set 0); written = not (eqb written 0) }

-- what is told of what words report, in the slice; 24 where they are no report
unfoldable pub asked : List ℕ → List ℕ → (Psbt → Told) → Export
asked R A k = answered A (pick (is_report R) (k (psbt_in R)) no_report)

-- the same of a call that takes the state too, by two numbers
unfoldable pub asked_in_def : ℕ → ℕ → List ℕ → List ℕ → (State → Psbt → Told) → Export
asked_in_def set written R A k = asked R A (k (state_of set written))

-- the slice, and one lent buffer
pub data ExportWith : Type 0 where
  leaves : Export → List ℕ → ExportWith

-- the slice, and both lent tables
pub data ExportWithBoth : Type 0 where
  leaves_both : Export → List ℕ → List ℕ → ExportWithBoth

-- a parse's answer in the slice, and both tables
unfoldable pub parse_left : List ℕ → ToldParse → ExportWithBoth
parse_left A (told_with t P M) = leaves_both (answered A t) P M

-- a parse: with a slice that is short both tables stay as they are
unfoldable pub parse_export : List ℕ → List ℕ → List ℕ → ToldParse → ExportWithBoth
parse_export A P M t = pick (leb answer_words (length A)) (parse_left A t) (leaves_both (exported (number_of NoRoom) A) P M)

-- an answer in the slice, and the buffer
unfoldable pub out_left : List ℕ → ToldOut → ExportWith
out_left A (told_left t B) = leaves (answered A t) B

-- a call that writes a buffer: with a slice that is short the buffer stays as it is; so it does with words that are no report, which is 24
unfoldable pub out_export : ℕ → ℕ → List ℕ → List ℕ → List ℕ → (State → Psbt → ToldOut) → ExportWith
out_export set written R A B k =
    pick (leb answer_words (length A))
    (out_left A (pick (is_report R) (k (state_of set written) (psbt_in R)) (told_left no_report B)))
    (leaves (exported (number_of NoRoom) A) B)
