-- What lookups and listings answer, without places: a refusal, absence, or what they name.
use Rattle.std.specs.Prelude.{ℕ, zero, suc, ◌+◌, ◌*◌, ◌/◌, Bool, List, [], ◌∷◌, map, ltb, length, take, drop, Ok, Err, Some, None}
use Rattle.format.specs.Tests.{pick}
use Rattle.format.specs.Numbers.{le}
use Rattle.format.specs.Content.{Pair, Found, absent, found, find, field}
use Rattle.format.specs.Entries.{shown}
use Rattle.format.specs.Tables.{Held, no, holds, View, hides, shows}
use Rattle.format.specs.Lookups.{Length, length_fits, listing, nth}
use Rattle.format.specs.Fields.{utxo_of}
use Rattle.format.specs.Scripts.{out_of, script_entry}
use Rattle.format.specs.Transaction.{table_fits}
use Rattle.format.specs.declared.PsbtError.{PsbtError}
use Rattle.format.specs.declared.PsbtError.TheVariants.{BadValue, OutOfRange, BadIndex}
use Rattle.format.specs.declared.State.{State}
use Rattle.format.specs.Answers.{Listing, Looked, Nth, Numbered, OutputScript, Utxo}
use Rattle.format.specs.declared.ScriptPlace.TheVariants as O

-- an answer without places
pub data Answer (A : Type 0) : Type 0 where
  refuses : PsbtError → Answer A
  lacks : Answer A
  gives : A → Answer A

-- the bytes that a lookup's answer names in the file f
unfoldable pub answer_at : List ℕ → Looked → Answer (List ℕ)
answer_at f (Err e) = refuses e
answer_at f (Ok None) = lacks
answer_at f (Ok (Some p)) = gives (take p.len (drop p.start f))

-- a value of a wrong length is refused
unfoldable pub of_length_in : Length → Found → Answer (List ℕ)
of_length_in l absent = lacks
of_length_in l (found v) = pick (length_fits l (length v)) (gives v) (refuses BadValue)

-- a typed lookup in a map that shows its pairs: the map's refusal, the asked key's length, absence, the value's length
unfoldable pub look_in_def : Bool → Length → List ℕ → View → Answer (List ℕ)
look_in_def ok l key (hides e) = refuses e
look_in_def ok l key (shows ps) = pick ok (of_length_in l (find key ps)) (refuses BadValue)

-- the number that a value spells
unfoldable pub number_in : Answer (List ℕ) → Numbered
number_in (refuses e) = Err e
number_in lacks = Ok None
number_in (gives v) = Ok (Some (le v))

-- how many participants a value lists
unfoldable pub count_in : Answer (List ℕ) → Numbered
count_in (refuses e) = Err e
count_in lacks = Ok None
count_in (gives v) = Ok (Some (length v / 33))

-- participant number i of those
unfoldable pub participant_in : ℕ → Answer (List ℕ) → Answer (List ℕ)
participant_in i (refuses e) = refuses e
participant_in i lacks = lacks
participant_in i (gives v) = pick (ltb i (length v / 33)) (gives (take 33 (drop (33 * i) v))) (refuses OutOfRange)

-- what a witness UTXO of the file f says: its amount and its script's bytes
unfoldable pub utxo_at : List ℕ → Utxo → Answer (ℕ × List ℕ)
utxo_at f (Err e) = refuses e
utxo_at f (Ok None) = lacks
utxo_at f (Ok (Some u)) = gives (u.amount, take u.len (drop u.start f))

-- the witness UTXO that a value spells
unfoldable pub utxo_in : Answer (List ℕ) → Answer (ℕ × List ℕ)
utxo_in (refuses e) = refuses e
utxo_in lacks = lacks
utxo_in (gives v) = utxo_at v (utxo_of 0 v)

-- an output's script: bytes of the file, or a place in the script table
pub data Script : Type 0 where
  in_file : List ℕ → Script
  in_table : ℕ → ℕ → Script

-- what an output script's answer names in the file f
unfoldable pub script_at : List ℕ → OutputScript → Answer Script
script_at f (Err e) = refuses e
script_at f (Ok None) = lacks
script_at f (Ok (Some (O.InFile s n))) = gives (in_file (take n (drop s f)))
script_at f (Ok (Some (O.InTable s n))) = gives (in_table s n)

-- the script of output number i: 04, else the one set
unfoldable pub script_found : State → ℕ → Found → Answer Script
script_found t i (found v) = gives (in_file v)
script_found t i absent = pick t.set (gives (in_table (i * script_entry + 1) 34)) lacks

-- of an output that shows its pairs: its refusal, its entry of the script table T, the script
unfoldable pub script_in : State → List ℕ → ℕ → View → Answer Script
script_in t T i (hides e) = refuses e
script_in t T i (shows ps) = pick (table_fits t (out_of ps ∷ []) (drop (i * script_entry) T)) (script_found t i (field 0x04 ps)) (refuses BadIndex)

-- the pairs that a listing names in its map, or the refusal
unfoldable pub list_at : List ℕ → Listing → Held → View
list_at f (Err e) h = hides e
list_at f (Ok l) (no e) = hides e
list_at f (Ok l) (holds es) = shows (take l.count (drop l.first (map (shown f) es)))

-- the pairs of a type in a map that shows its pairs, or the refusal
unfoldable pub list_in : ℕ → View → View
list_in t (hides e) = hides e
list_in t (shows ps) = shows (listing t ps)

-- the pair that an answer by pair number names in the file f
unfoldable pub nth_at : List ℕ → Nth → Answer Pair
nth_at f (Err e) = refuses e
nth_at f (Ok e) = gives (shown f e)

-- pair number j of those that a listing names, asked by its number in the map
unfoldable pub nth_of_listing : List ℕ → ℕ → Listing → Held → Answer Pair
nth_of_listing f j (Err e) h = refuses e
nth_of_listing f j (Ok l) h = pick (ltb j l.count) (nth_at f (nth (l.first + j) h)) (refuses OutOfRange)

-- pair number j of a list of pairs
unfoldable pub pair_of : ℕ → List Pair → Answer Pair
pair_of j [] = refuses OutOfRange
pair_of zero (p ∷ ps) = gives p
pair_of (suc j) (p ∷ ps) = pair_of j ps

-- pair number j of what is shown, or the refusal
unfoldable pub nth_in_def : ℕ → View → Answer Pair
nth_in_def j (hides e) = refuses e
nth_in_def j (shows ps) = pair_of j ps
