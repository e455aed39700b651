-- `dump_text::put_pairs` meets its contract: the pairs left are all, then one and the others behind it, then none.
use Rattle.std.proofs.Common.{◌∙◌, ap}
use Rattle.std.specs.Prelude.{List, map}
use Rattle.format.specs.Entries.{shown}
use Rattle.format.specs.declared.PairEntry.{PairEntry}
use Rattle.entries.specs.Walks.{pairs_left}
use Rattle.fitness.specs.Fits.{entries_of, run}
use Rattle.text.specs.Spots.{spot, lay}
use Rattle.dump_text.specs.Lines.{pairs_text}
use Rattle.dump_text.proofs.Walks.{pairs_done, pairs_more}
use Rattle.dump_text.proofs.put_pairs.Goals as goal

pub loop-e-init : goal.loop-e-init
unfolding entries_of run
loop-e-init c =
    ap (λ (es : List PairEntry). lay (spot c.args.at c.args.out.now) (pairs_text (map (shown c.args.file.now) es)))
    (ap pairs_left c.into_iter-e-iterator.ensures.into_iter_gives ∙ c.pairs_of-e-items.ensures)

pub loop-e-preserved : goal.loop-e-preserved
loop-e-preserved c = pairs_more _ _ _ _ _ c.loop-e.invariant _ _ c.in-Some.ensures.steps _ c.put_entry-to.ensures

pub returns : goal.returns
returns c = pairs_done _ _ _ _ _ c.loop-e.invariant c.in-None.ensures.steps.0
