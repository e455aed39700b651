-- `dump_text::put_pairs` meets its contract. The loop's invariant: the lines of the pairs left, put from here, give all.
use Rattle.std.proofs.Common.{◌≡◌}
use Rattle.std.specs.Prelude.{map}
use Rattle.format.specs.Entries.{shown}
use Rattle.entries.specs.Walks.{pairs_left}
use Rattle.fitness.specs.Fits.{entries_of}
use Rattle.text.specs.Spots.{spot, lay}
use Rattle.dump_text.specs.Lines.{pairs_text}
use Rattle.dump_text.proofs.put_pairs.Given as goal

abbrev pub invariant-loop-e : goal.invariant-loop-e
invariant-loop-e l = lay (spot l.to l.out) (pairs_text (map (shown l.file) (pairs_left l.e-iterator)))
    ≡ lay (spot l.at l.initial.out) (pairs_text (map (shown l.file) (entries_of l.pairs l.fn.m)))
