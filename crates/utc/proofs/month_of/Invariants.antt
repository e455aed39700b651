-- `utc::month_of` meets its contract. The loop's invariant: the month of the day that is left, from `month` on, is the month of the whole.
use Rattle.utc.proofs.Stands.{Months}
use Rattle.utc.proofs.month_of.Given as goal

abbrev pub invariant-loop-month : goal.invariant-loop-month
invariant-loop-month l = Months l.year l.day l.month l.left
