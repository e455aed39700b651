-- Where the fields of a map stand, and what such a place shows.
use Rattle.std.specs.Prelude.{ℕ, Bool, List, [], ◌∷◌, take, drop, eqb, Ok, Err, Some, None, Option}
use Rattle.format.specs.Tests.{pick}
use Rattle.format.specs.Keys.{key_of, same}
use Rattle.format.specs.Entries.{key_in_def}
use Rattle.format.specs.Content.{Found, absent, found}
use Rattle.format.specs.Lookups.{place}
use Rattle.format.specs.Locks.{Sized, missing, misfit, is, In}
use Rattle.format.specs.declared.Part.{Part}
use Rattle.format.specs.declared.PairEntry.{PairEntry}
use Rattle.format.specs.declared.MapEntry.{MapEntry}
use Rattle.format.specs.Answers.{part_at, Looked}
use Rattle.fitness.specs.Fits.{entries_of}
use Rattle.all_maps_fit.specs.declared.SizedAt.{SizedAt}
use Rattle.all_maps_fit.specs.declared.SizedAt.TheVariants as S
use Rattle.all_maps_fit.specs.declared.InputAt.{InputAt}

-- where a field stands, if it does
abbrev pub FoundAt : Type 0
FoundAt = Option Part

-- the place of a field, by where its key was found; finding in a fit map refuses nothing
unfoldable pub found_at : Looked → FoundAt
found_at (Err e) = None
found_at (Ok x) = x

-- the place of the field of a type without key data
unfoldable pub field_at : List ℕ → List ℕ → ℕ → MapEntry → FoundAt
field_at f P t m = found_at (place f (key_of t []) (entries_of P m))

-- the place of a field that must have w bytes
unfoldable pub sized_at : ℕ → FoundAt → SizedAt
sized_at w None = S.Missing
sized_at w (Some p) = pick (eqb p.len w) (S.At p.start) S.Misfit

-- the value that stands at a place
unfoldable pub found_in_def : List ℕ → FoundAt → Found
found_in_def f None = absent
found_in_def f (Some p) = found (take p.len (drop p.start f))

-- the value of w bytes that stands at a place
unfoldable pub sized_in : ℕ → List ℕ → SizedAt → Sized
sized_in w f S.Missing = missing
sized_in w f S.Misfit = misfit
sized_in w f (S.At s) = is (take w (drop s f))

-- the place of a field of w bytes after pair e, which is its own or isn't: the first of its own stays
unfoldable pub noted_at : SizedAt → Bool → ℕ → PairEntry → SizedAt
noted_at S.Missing own w e = pick own (sized_at w (Some (part_at e.value e.vlen))) S.Missing
noted_at S.Misfit own w e = S.Misfit
noted_at (S.At s) own w e = S.At s

-- the same of type t without key data
unfoldable pub field_noted : List ℕ → ℕ → ℕ → SizedAt → PairEntry → SizedAt
field_noted f t w old e = noted_at old (same (key_of t []) (key_in_def f e)) w e

-- and after several pairs
unfoldable pub field_from : List ℕ → ℕ → ℕ → SizedAt → List PairEntry → SizedAt
field_from f t w old [] = old
field_from f t w old (e ∷ es) = field_from f t w (field_noted f t w old e) es

-- the places of an input's fields: none yet
abbrev pub no_input : InputAt
no_input = record { txid = S.Missing; index = S.Missing; sequence = S.Missing; time = S.Missing; height = S.Missing }

-- after one pair
unfoldable pub note_input : List ℕ → InputAt → PairEntry → InputAt
note_input f a e = record {
  txid = field_noted f 0x0e 32 a.txid e;
  index = field_noted f 0x0f 4 a.index e;
  sequence = field_noted f 0x10 4 a.sequence e;
  time = field_noted f 0x11 4 a.time e;
  height = field_noted f 0x12 4 a.height e;
}

-- after several
unfoldable pub input_from : List ℕ → InputAt → List PairEntry → InputAt
input_from f a [] = a
input_from f a (e ∷ es) = input_from f (note_input f a e) es

-- the input that stands at them
unfoldable pub input_in : List ℕ → InputAt → In
input_in f a = record {
  txid = sized_in 32 f a.txid;
  index = sized_in 4 f a.index;
  sequence = sized_in 4 f a.sequence;
  time = sized_in 4 f a.time;
  height = sized_in 4 f a.height;
}
