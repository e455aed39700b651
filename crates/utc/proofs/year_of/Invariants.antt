-- `utc::year_of` meets its contract. The loop's invariant: the year of the day that is left, from `year` on, is the year of the whole.
use Rattle.utc.proofs.Stands.{Years}
use Rattle.utc.proofs.year_of.Given as goal

abbrev pub invariant-loop-year : goal.invariant-loop-year
invariant-loop-year l = Years l.day l.year l.left
