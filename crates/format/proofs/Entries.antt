-- Writing an entry keeps a table's length.
use mathlib.Core.Path.{◌≡◌}
use mathlib.Core.List.{List}
use Prim.Native.Nat.{ℕ, ◌*◌}
use lib.ListN.{length}
use lib.Seq.{length-sets}
use Rattle.format.specs.Entries.{pair_words, map_words, pair_entry_words, map_entry_words, put_pair, put_map}
use Rattle.format.specs.declared.PairEntry.{PairEntry}
use Rattle.format.specs.declared.MapEntry.{MapEntry}

pub length_put_pair : (t : List ℕ) (n : ℕ) (e : PairEntry) → length (put_pair t n e) ≡ length t
unfolding put_pair
length_put_pair t n e = length-sets t (n * pair_words) (pair_entry_words e)

pub length_put_map : (t : List ℕ) (n : ℕ) (e : MapEntry) → length (put_map t n e) ≡ length t
unfolding put_map
length_put_map t n e = length-sets t (n * map_words) (map_entry_words e)
