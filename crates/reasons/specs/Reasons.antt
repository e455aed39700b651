-- What each refusal means, in words.
use Rattle.std.specs.Prelude.{List, [], ◌∷◌, ◌++◌, ℕ, get_or}
use Rattle.format.specs.Refusals.{number_of}
use Rattle.format.specs.declared.PsbtError.{PsbtError}
use Rattle.text.specs.Say.{say, newline}
use Rattle.text.specs.Spelled.{decimal}
use Rattle.rooms.specs.Limits.{longest, most_pairs, most_maps}

-- what refusals mean, in words, in the order of their numbers; none has the number 0
abbrev pub meanings : List (List ℕ)
meanings =
    []
    ∷ say "this is no signing file"
    ∷ say "bytes are missing, or left over at the end"
    ∷ say "a count has bytes left over"
    ∷ say "a reason not in use"
    ∷ say "a key stands twice"
    ∷ say "a key stands below the one before it"
    ∷ say "a field has a wrong length"
    ∷ say "a count or a version is missing"
    ∷ say "a reason not in use"
    ∷ say "a reason not in use"
    ∷ say "a reason not in use"
    ∷ say "a reason not in use"
    ∷ say "the file is not of version 2"
    ∷ say "there is no such map"
    ∷ say "a reason not in use"
    ∷ say "a reason not in use"
    ∷ say "an output has no script"
    ∷ say "a silent payment breaks its rules"
    ∷ say "the scripts set do not fit"
    ∷ say "a reason not in use"
    ∷ (say "the file is longer than " ++ (decimal longest ++ say " bytes"))
    ∷ (say "the file has more than " ++ (decimal most_pairs ++ say " pairs"))
    ∷ (say "the file has more than " ++ (decimal most_maps ++ say " maps"))
    ∷ say "a table does not fit the file"
    ∷ say "the transaction is too long"
    ∷ []

-- what a refusal means
unfoldable pub meaning : PsbtError → List ℕ
meaning e = get_or meanings (number_of e) []

-- before a refusal's number
abbrev pub say_refused : List ℕ
say_refused = say "refused "

-- before what it means
abbrev pub say_that : List ℕ
say_that = say ": "

-- a refusal's line: its number and what it means
unfoldable pub refused_line : PsbtError → List ℕ
refused_line e = say_refused ++ (decimal (number_of e) ++ (say_that ++ (meaning e ++ newline)))
