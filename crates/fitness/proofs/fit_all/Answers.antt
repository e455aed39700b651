-- `fitness::fit_all` meets its contract: the pairs left are all, then one and the others behind it, then none.
use Rattle.std.proofs.Common.{◌∙◌, ap}
use Rattle.entries.specs.Walks.{pairs_left}
use Rattle.fitness.specs.Fits.{entries_of, run}
use Rattle.fitness.proofs.Walks.{fit_first, fit_done, fit_stop, fit_more}
use Rattle.fitness.proofs.fit_all.Goals as goal

pub loop-e-init : goal.loop-e-init
unfolding entries_of run
loop-e-init c = fit_first _ _ c.args.m _ (ap pairs_left c.into_iter-e-iterator.ensures.into_iter_gives ∙ c.pairs_of-e-items.ensures)

pub returns-then-not-fit_one : goal.returns-then-not-fit_one
returns-then-not-fit_one c = fit_stop _ _ _ _ c.loop-e.invariant _ _ c.in-Some.ensures.steps _ c.fit_one.ensures c.if-not-fit_one.true

pub loop-e-preserved : goal.loop-e-preserved
loop-e-preserved c = fit_more _ _ _ _ c.loop-e.invariant _ _ c.in-Some.ensures.steps _ c.fit_one.ensures c.if-not-fit_one.false

pub returns : goal.returns
returns c = fit_done _ _ _ _ c.loop-e.invariant c.in-None.ensures.steps.0
