-- What a walk over entries of a pair table has left.
use Rattle.std.specs.Prelude.{List}
use Rattle.format.specs.Entries.{pair_entries}
use Rattle.format.specs.declared.PairEntry.{PairEntry}
use Rattle.entries.specs.declared.Pairs.{Pairs}

-- the entries that a walk has left
unfoldable pub pairs_left : Pairs → List PairEntry
pairs_left p = pair_entries p.words.now
