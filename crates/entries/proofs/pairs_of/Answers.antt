-- `entries::pairs_of` meets its contract: the words that it lends are those of the pairs named.
use Rattle.std.proofs.Common.{rules}
use Rattle.entries.specs.Walks.{pairs_left}
use Rattle.entries.proofs.Walks.{named_in, named_entries}
use Rattle.entries.proofs.pairs_of.Goals as goal

pub overflow_mul-rest : goal.overflow_mul-rest
overflow_mul-rest c = let h = named_in c.args.pairs.now _ _ c.requires in search rules

pub offset_bounds-pairs-m : goal.offset_bounds-pairs-m
offset_bounds-pairs-m c = let h = named_in c.args.pairs.now _ _ c.requires in search rules

pub slice_bounds-rest-count : goal.slice_bounds-rest-count
slice_bounds-rest-count c = let h = named_in c.args.pairs.now _ _ c.requires in search rules

pub slice_bounds-rest-start : goal.slice_bounds-rest-start
slice_bounds-rest-start c = let h = named_in c.args.pairs.now _ _ c.requires in search rules

pub overflow_mul-result : goal.overflow_mul-result
overflow_mul-result c = let h = named_in c.args.pairs.now _ _ c.requires in search rules

pub slice_bounds-result-end : goal.slice_bounds-result-end
slice_bounds-result-end c = let h = named_in c.args.pairs.now _ _ c.requires in search rules

pub returns : goal.returns
unfolding pairs_left
returns c = named_entries c.args.pairs.now _ _ c.requires
