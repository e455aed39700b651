-- Where a refused parse stopped: in which map, after how many of its pairs; and the line that says so.
use Rattle.std.specs.Prelude.{ℕ, zero, suc, ◌+◌, ◌-◌, Bool, ◌||◌, List, [], ◌++◌, ltb, eqb}
use Rattle.format.specs.Tests.{pick}
use Rattle.format.specs.Refusals.{number_of}
use Rattle.format.specs.Keys.{key_of}
use Rattle.format.specs.Content.{counted}
use Rattle.format.specs.Entries.{pair_entries, map_entries}
use Rattle.format.specs.Tables.{View, held_by_def, view_of}
use Rattle.format.specs.declared.PsbtError.{PsbtError}
use Rattle.format.specs.declared.PsbtError.TheVariants.{InvalidMagic, MissingCounts, NotAllowed, TooLong}
use Rattle.entries.specs.Words.{map_at}
use Rattle.claims_reading.specs.Found.{find_in}
use Rattle.text.specs.Say.{say}
use Rattle.text.specs.Spelled.{decimal}
use Rattle.stop_lines.specs.declared.Place.{Place}
use Rattle.stop_lines.specs.declared.Place.TheVariants.{Nowhere, Global, GlobalEnd, Input, Output, Behind}

-- a refusal is one of two
unfoldable pub one_of : PsbtError → PsbtError → PsbtError → Bool
one_of e a b = eqb (number_of e) (number_of a) || eqb (number_of e) (number_of b)

-- the map number i behind the global map, k pairs of which passed, by the counts of inputs and outputs: maps are numbered from 0 in each kind
unfoldable pub behind_global : ℕ → ℕ → ℕ → ℕ → Place
behind_global i k ins outs = pick (ltb i ins) (Input i k) (pick (ltb (i - ins) outs) (Output (i - ins) k) Behind)

-- where the maps before number m ended, and k pairs of that one passed: the global map's own rule is asked at its end
unfoldable pub in_map_def : PsbtError → ℕ → ℕ → ℕ → ℕ → Place
in_map_def e zero k ins outs = Global k
in_map_def e (suc i) k ins outs = pick (one_of e MissingCounts NotAllowed) GlobalEnd (behind_global i k ins outs)

-- the same of any refusal: of a file that is too long, or does not begin as it must, nothing was read
unfoldable pub place_at : PsbtError → ℕ → ℕ → ℕ → ℕ → Place
place_at e m k ins outs = pick (one_of e InvalidMagic TooLong) Nowhere (in_map_def e m k ins outs)

-- how many pairs the maps before number m have, by the last of their entries
unfoldable pub pairs_before : List ℕ → ℕ → ℕ
pairs_before M zero = 0
pairs_before M (suc i) = (map_at M i).first + (map_at M i).count

-- how many pairs of map number m passed, where p passed in all
unfoldable pub pairs_passed : List ℕ → ℕ → ℕ → ℕ
pairs_passed M p m = p - pairs_before M m

-- what the tables show of the global map
unfoldable pub global_shown : List ℕ → List ℕ → List ℕ → View
global_shown f P M = view_of f (held_by_def f (pair_entries P) (map_entries M))

-- what its count field of type t says, 0 where the tables show none
unfoldable pub count_shown : List ℕ → List ℕ → List ℕ → ℕ → ℕ
count_shown f P M t = counted (find_in (key_of t []) (global_shown f P M))

-- where the parse of a file stopped that reports a refusal, p pairs and m maps, and leaves the tables P and M
unfoldable pub stopped : List ℕ → List ℕ → List ℕ → PsbtError → ℕ → ℕ → Place
stopped f P M e p m = place_at e m (pairs_passed M p m) (count_shown f P M 0x04) (count_shown f P M 0x05)

-- how many pairs of the map passed
unfoldable pub after_pairs : ℕ → List ℕ
after_pairs k = say ", after " ++ (decimal k ++ pick (eqb k 1) (say " pair\n") (say " pairs\n"))

-- a map that has a number, and how many of its pairs passed
abbrev pub numbered_line : List ℕ → ℕ → ℕ → List ℕ
numbered_line says i k = says ++ (decimal i ++ after_pairs k)

-- the line of a place; where nothing was read there is none
unfoldable pub stop_line : Place → List ℕ
stop_line Nowhere = []
stop_line (Global k) = say "stopped in the global map" ++ after_pairs k
stop_line GlobalEnd = say "stopped at the end of the global map\n"
stop_line (Input i k) = numbered_line (say "stopped in input ") i k
stop_line (Output i k) = numbered_line (say "stopped in output ") i k
stop_line Behind = say "stopped behind the last map\n"
