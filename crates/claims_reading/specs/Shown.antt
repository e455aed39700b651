-- The tables that an accepted file leaves, and what they show.
use Rattle.std.specs.Prelude.{◌≡◌, ℕ, zero, suc, ◌+◌, ◌*◌, ◌≤◌, List, [], ◌∷◌, ◌++◌, map, length, drop}
use Rattle.format.specs.Content.{Pair, Map, Content, maps_of, magic, psbt_of}
use Rattle.format.specs.Reading.{accepted, reading}
use Rattle.format.specs.Entries.{pair_words, map_words, pair_entry_words, map_entry_words, entry_of, width}
use Rattle.format.specs.Tables.{Held, no, holds, View, hides, shows}
use Rattle.format.specs.declared.PsbtError.TheVariants.{OutOfRange}
use Rattle.format.specs.declared.Psbt.{Psbt}
use Rattle.format.specs.declared.PairEntry.{PairEntry}
use Rattle.format.specs.declared.MapEntry.{MapEntry}

-- a pair without its spelling
unfoldable pub bare : Pair → Pair
bare p = record { klen = []; key = p.key; vlen = []; value = p.value }

-- what map number m of a content shows
unfoldable pub view_by : ℕ → List Map → View
view_by m [] = hides OutOfRange
view_by zero (x ∷ ms) = shows (map bare x.pairs)
view_by (suc m) (x ∷ ms) = view_by m ms

-- the place behind pairs that begin at `at`
unfoldable pub behind : ℕ → List Pair → ℕ
behind at [] = at
behind at (p ∷ ps) = behind (at + width p) ps

-- the place behind a map that begins at `at`
unfoldable pub behind_map : ℕ → Map → ℕ
behind_map at m = behind at m.pairs + length m.end

-- the entries of pairs that begin at `at`
unfoldable pub entries : ℕ → List Pair → List PairEntry
entries at [] = []
entries at (p ∷ ps) = entry_of at p ∷ entries (at + width p) ps

-- the entries of all pairs of maps that begin at `at`
unfoldable pub maps_entries : ℕ → List Map → List PairEntry
maps_entries at [] = []
maps_entries at (m ∷ ms) = entries at m.pairs ++ maps_entries (behind_map at m) ms

-- what map number m holds, of maps that begin at `at`
unfoldable pub entries_by : ℕ → ℕ → List Map → Held
entries_by at m [] = no OutOfRange
entries_by at zero (x ∷ ms) = holds (entries at x.pairs)
entries_by at (suc m) (x ∷ ms) = entries_by (behind_map at x) m ms

-- the map entries of maps whose first pair has number p
unfoldable pub runs : ℕ → List Map → List MapEntry
runs p [] = []
runs p (m ∷ ms) = record { first = p; count = length m.pairs } ∷ runs (p + length m.pairs) ms

-- how many pairs maps have together
unfoldable pub pairs_in : List Map → ℕ
pairs_in [] = 0
pairs_in (m ∷ ms) = length m.pairs + pairs_in ms

-- the words of entries, one after the other
unfoldable pub joined : {A : Type 0} → (A → List ℕ) → List A → List ℕ
joined w [] = []
joined w (x ∷ xs) = w x ++ joined w xs

-- a table with words written from its beginning; the rest stays
unfoldable pub onto : List ℕ → List ℕ → List ℕ
onto t ws = ws ++ drop (length ws) t

-- the pair table that an accepted file leaves
unfoldable pub pair_table : Content → List ℕ → List ℕ
pair_table c P = onto P (joined pair_entry_words (maps_entries (length magic) (maps_of c)))

-- the map table that it leaves
unfoldable pub map_table : Content → List ℕ → List ℕ
map_table c M = onto M (joined map_entry_words (runs 0 (maps_of c)))

-- both tables have an entry for each pair and each map
pub record Room (c : Content) (P M : List ℕ) : Type 0 where
  pub pairs : pairs_in (maps_of c) * pair_words ≤ length P
  pub maps : length (maps_of c) * map_words ≤ length M

-- an accepted parse: the file is accepted with a content, and the parse reports and leaves that content's
pub record Accepts (f P M : List ℕ) (s : Psbt) (p m : ℕ) (P' M' : List ℕ) : Type 0 where
  pub content : Content
  pub reads : reading f ≡ accepted content
  pub reports : s ≡ psbt_of content.global.pairs
  pub pairs : p ≡ pairs_in (maps_of content)
  pub maps : m ≡ length (maps_of content)
  pub pairs_left : P' ≡ pair_table content P
  pub maps_left : M' ≡ map_table content M
