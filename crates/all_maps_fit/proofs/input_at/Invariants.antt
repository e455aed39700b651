-- `all_maps_fit::input_at` meets its contract. The loop's invariant: the fields after the pairs left are those after all.
use Rattle.std.proofs.Common.{◌≡◌}
use Rattle.entries.specs.Walks.{pairs_left}
use Rattle.fitness.specs.Fits.{entries_of}
use Rattle.all_maps_fit.specs.Places.{no_input, input_from}
use Rattle.all_maps_fit.proofs.input_at.Given as goal

abbrev pub invariant-loop-e : goal.invariant-loop-e
invariant-loop-e l = input_from l.file l.at (pairs_left l.e-iterator) ≡ input_from l.file no_input (entries_of l.pairs l.fn.m)
