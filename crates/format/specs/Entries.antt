-- The layout of both tables: which words an entry takes, and in which order. Nothing else knows it.
use Rattle.std.specs.Prelude.{ℕ, ◌+◌, ◌*◌, Bool, List, [], ◌∷◌, length, take, drop, leb}
use Rattle.std.proofs.lemmas.List.Edits.{sets}
use Rattle.format.specs.Content.{Pair}
use Rattle.format.specs.declared.PairEntry.{PairEntry}
use Rattle.format.specs.declared.MapEntry.{MapEntry}

-- how many words an entry takes
abbrev pub pair_words : ℕ
pair_words = 4

-- and a map's entry
abbrev pub map_words : ℕ
map_words = 2

-- a table of entries of w words each has entry number n whole
unfoldable pub has_room_def : ℕ → ℕ → List ℕ → Bool
has_room_def w n t = leb (n * w + w) (length t)

-- the words of an entry
unfoldable pub pair_entry_words : PairEntry → List ℕ
pair_entry_words e = e.key ∷ e.klen ∷ e.value ∷ e.vlen ∷ []

-- the words of a map's entry
unfoldable pub map_entry_words : MapEntry → List ℕ
map_entry_words e = e.first ∷ e.count ∷ []

-- a table with entry number n written
unfoldable pub put_pair : List ℕ → ℕ → PairEntry → List ℕ
put_pair t n e = sets t (n * pair_words) (pair_entry_words e)

-- a map table with entry number n written
unfoldable pub put_map : List ℕ → ℕ → MapEntry → List ℕ
put_map t n e = sets t (n * map_words) (map_entry_words e)

-- the whole entries of a table; words left over belong to none
unfoldable pub pair_entries : List ℕ → List PairEntry
pair_entries [] = []
pair_entries (a ∷ []) = []
pair_entries (a ∷ b ∷ []) = []
pair_entries (a ∷ b ∷ c ∷ []) = []
pair_entries (a ∷ b ∷ c ∷ d ∷ t) = record { key = a; klen = b; value = c; vlen = d } ∷ pair_entries t

-- the whole entries of a map table
unfoldable pub map_entries : List ℕ → List MapEntry
map_entries [] = []
map_entries (a ∷ []) = []
map_entries (a ∷ b ∷ t) = record { first = a; count = b } ∷ map_entries t

-- the entry of a pair whose bytes begin at `at`
unfoldable pub entry_of : ℕ → Pair → PairEntry
entry_of at p = record {
  key = at + length p.klen;
  klen = length p.key;
  value = at + length p.klen + length p.key + length p.vlen;
  vlen = length p.value;
}

-- how many bytes a pair takes
unfoldable pub width : Pair → ℕ
width p = length p.klen + length p.key + length p.vlen + length p.value

-- the bytes of a file that an entry names
unfoldable pub key_in_def : List ℕ → PairEntry → List ℕ
key_in_def f e = take e.klen (drop e.key f)

-- the value that an entry names
unfoldable pub value_in_def : List ℕ → PairEntry → List ℕ
value_in_def f e = take e.vlen (drop e.value f)

-- the pair that an entry shows: key and value; how their lengths are spelled it doesn't say
unfoldable pub shown : List ℕ → PairEntry → Pair
shown f e = record { klen = []; key = key_in_def f e; vlen = []; value = value_in_def f e }
