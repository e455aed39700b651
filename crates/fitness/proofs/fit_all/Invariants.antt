-- `fitness::fit_all` meets its contract. The loop's invariant: what is asked of the pairs left, behind `last`, is what
-- is asked of all.
use Rattle.std.proofs.Common.{◌≡◌, []}
use Rattle.format.specs.Entries.{key_in_def}
use Rattle.format.specs.Tables.{fit}
use Rattle.entries.specs.Walks.{pairs_left}
use Rattle.fitness.specs.Fits.{entries_of}
use Rattle.fitness.proofs.fit_all.Given as goal

abbrev pub invariant-loop-e : goal.invariant-loop-e
invariant-loop-e l = fit l.file (key_in_def l.file l.last) (pairs_left l.e-iterator) ≡ fit l.file [] (entries_of l.pairs l.fn.m)
