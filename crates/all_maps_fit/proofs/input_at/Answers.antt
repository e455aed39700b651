-- `all_maps_fit::input_at` meets its contract: the pairs left are all, then one and the others behind it, then none.
use Rattle.std.proofs.Common.{◌∙◌, ap}
use Rattle.entries.specs.Walks.{pairs_left}
use Rattle.fitness.specs.Fits.{entries_of, run}
use Rattle.all_maps_fit.specs.Places.{no_input, input_from}
use Rattle.all_maps_fit.proofs.Inputs.{note_done, note_more}
use Rattle.all_maps_fit.proofs.input_at.Goals as goal

pub loop-e-init : goal.loop-e-init
unfolding entries_of run
loop-e-init c = ap (input_from c.args.file.now no_input) (ap pairs_left c.into_iter-e-iterator.ensures.into_iter_gives ∙ c.pairs_of-e-items.ensures)

pub loop-e-preserved : goal.loop-e-preserved
loop-e-preserved c = note_more _ _ _ _ _ _ _ c.loop-e.invariant c.in-Some.ensures.steps c.note_input-at.ensures

pub returns : goal.returns
returns c = note_done _ _ c.args.m _ _ c.loop-e.invariant c.in-None.ensures.steps.0 c.requires
