-- Lookups and listings in a map, over tables that may hold anything.
use Rattle.std.specs.Prelude.{ℕ, zero, suc, ◌%◌, Bool, true, not, ◌&&◌, List, [], ◌∷◌, map, length, take, drop, eqb, Ok, Err, Some, None}
use Rattle.format.specs.Tests.{pick, only}
use Rattle.format.specs.Numbers.{le}
use Rattle.format.specs.Keys.{type_of, key_of, below, same}
use Rattle.format.specs.Content.{Pair}
use Rattle.format.specs.Entries.{key_in_def, value_in_def, shown}
use Rattle.format.specs.Tables.{Held, no, holds}
use Rattle.format.specs.declared.PsbtError.TheVariants.{BadValue, OutOfRange}
use Rattle.format.specs.declared.PairEntry.{PairEntry}
use Rattle.format.specs.Answers.{part_at, pairs_at, Listing, Looked, Nth, Numbered}

-- the place of a key's value: that of the entry that has the key
unfoldable pub place : List ℕ → List ℕ → List PairEntry → Looked
place f key [] = Ok None
place f key (e ∷ es) = pick (same key (key_in_def f e)) (Ok (Some (part_at e.value e.vlen))) (place f key es)

-- which lengths of a value are right: any, one of n bytes, a list of 33-byte keys that is not empty
pub data Length : Type 0 where
  any_length : Length
  exactly : ℕ → Length
  key_list : Length

-- a value of n bytes has a right length
unfoldable pub length_fits : Length → ℕ → Bool
length_fits any_length n = true
length_fits (exactly w) n = eqb n w
length_fits key_list n = not (eqb n 0) && eqb (n % 33) 0

-- a value of a wrong length is refused
unfoldable pub of_length_def : Length → Looked → Looked
of_length_def l (Err e) = Err e
of_length_def l (Ok None) = Ok None
of_length_def l (Ok (Some p)) = pick (length_fits l p.len) (Ok (Some p)) (Err BadValue)

-- a typed lookup: the map's refusal, the asked key's length, absence, the value's length
unfoldable pub asked : Bool → Length → List ℕ → List ℕ → Held → Looked
asked ok l f key (no e) = Err e
asked ok l f key (holds es) = pick ok (of_length_def l (place f key es)) (Err BadValue)

-- the lookup of any key, by type and data
unfoldable pub look : List ℕ → ℕ → List ℕ → Held → Looked
look f t d h = asked true any_length f (key_of t d) h

-- the part of the file that a lookup hands back: empty for absence and refusal
unfoldable pub part : List ℕ → Looked → List ℕ
part f (Err e) = []
part f (Ok None) = []
part f (Ok (Some p)) = take p.len (drop p.start f)

-- the number that a place spells
unfoldable pub number_at : List ℕ → Looked → Numbered
number_at f (Err e) = Err e
number_at f (Ok None) = Ok None
number_at f (Ok (Some p)) = Ok (Some (le (take p.len (drop p.start f))))

-- the pairs of a type, in order
unfoldable pub listing : ℕ → List Pair → List Pair
listing t ps = only (λ p. eqb (type_of p.key) t) ps

-- how many pairs stand before the bare key of a type
unfoldable pub before : ℕ → List Pair → ℕ
before t ps = length (only (λ p. below p.key (key_of t [])) ps)

-- a listing by type: where its pairs begin in the map, or would, and how many they are
unfoldable pub list : List ℕ → ℕ → Held → Listing
list f t (no e) = Err e
list f t (holds es) = Ok (pairs_at (before t (map (shown f) es)) (length (listing t (map (shown f) es))))

-- a pair by its number in its map
unfoldable pub nth_of : ℕ → List PairEntry → Nth
nth_of i [] = Err OutOfRange
nth_of zero (e ∷ es) = Ok e
nth_of (suc i) (e ∷ es) = nth_of i es

-- pair number i of a map
unfoldable pub nth : ℕ → Held → Nth
nth i (no e) = Err e
nth i (holds es) = nth_of i es

-- the parts of the file that are its key and its value: empty for a refusal
unfoldable pub key_part : List ℕ → Nth → List ℕ
key_part f (Err e) = []
key_part f (Ok e) = key_in_def f e

-- the part that is its value
unfoldable pub value_part : List ℕ → Nth → List ℕ
value_part f (Err e) = []
value_part f (Ok e) = value_in_def f e
