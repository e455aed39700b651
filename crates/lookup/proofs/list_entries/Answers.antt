-- `lookup::list_entries` meets its contract: the pairs left are all, then one and the others behind it, then none.
use Rattle.std.proofs.Common.{rules, ◌∙◌, ap}
use Rattle.entries.specs.Walks.{pairs_left}
use Rattle.fitness.specs.Fits.{entries_of, run}
use Rattle.format.proofs.Counts.{count_first, count_fits, count_more, count_done}
use Rattle.lookup.proofs.Lists.{entries_few, list_counted}
use Rattle.lookup.proofs.list_entries.Goals as goal

pub loop-e-init : goal.loop-e-init
unfolding entries_of run
loop-e-init c =
    let all = ap pairs_left c.into_iter-e-iterator.ensures.into_iter_gives ∙ c.pairs_of-e-items.ensures in
    (count_first _ _ _ all, count_first _ _ _ all)

pub overflow_add-first : goal.overflow_add-first
overflow_add-first c =
    count_fits _ _ _ _ c.loop-e.invariant.0 _ _ c.in-Some.ensures.steps _ (entries_few c.args.pairs.now c.args.m 0 c.requires (search rules))

pub overflow_add-count : goal.overflow_add-count
overflow_add-count c =
    count_fits _ _ _ _ c.loop-e.invariant.1 _ _ c.in-Some.ensures.steps _ (entries_few c.args.pairs.now c.args.m 0 c.requires (search rules))

pub loop-e-preserved : goal.loop-e-preserved
loop-e-preserved c = (
  count_more _ _ _ _ c.loop-e.invariant.0 _ _ c.in-Some.ensures.steps _ c.is_before.ensures,
  count_more _ _ _ _ c.loop-e.invariant.1 _ _ c.in-Some.ensures.steps _ c.is_listed.ensures,
)

pub returns : goal.returns
returns c =
    list_counted _ _ _ _ _
    (count_done _ _ _ _ c.loop-e.invariant.0 c.in-None.ensures.steps.0)
    (count_done _ _ _ _ c.loop-e.invariant.1 c.in-None.ensures.steps.0)
