-- `lookup::list_entries` meets its contract. The loop's invariant: what was counted and what is counted among the pairs left
-- are all, of both counts.
use Rattle.entries.specs.Walks.{pairs_left}
use Rattle.fitness.specs.Fits.{entries_of}
use Rattle.lookup.specs.Lists.{is_before, is_listed}
use Rattle.format.proofs.Counts.{Counting}
use Rattle.lookup.proofs.list_entries.Given as goal

abbrev pub invariant-loop-e : goal.invariant-loop-e
invariant-loop-e l =
    Counting (is_before l.file l.key_type) (entries_of l.pairs l.fn.m) (pairs_left l.e-iterator) l.first
    × Counting (is_listed l.file l.key_type) (entries_of l.pairs l.fn.m) (pairs_left l.e-iterator) l.count
