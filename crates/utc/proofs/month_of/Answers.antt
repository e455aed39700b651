-- `utc::month_of` meets its contract. The invariant: the month of the day that is left, from month `m` on, is the month of the whole.
use Rattle.std.proofs.Common.{rules}
use Rattle.utc.proofs.Stands.{months}
use Rattle.utc.proofs.month_of.Goals as goal

pub loop-month-init : goal.loop-month-init
loop-month-init c = search (rules, months)

pub returns-then-left-long : goal.returns-then-left-long
returns-then-left-long c = search (rules, months)

pub loop-month-preserved : goal.loop-month-preserved
loop-month-preserved c = search (rules, months)

pub returns : goal.returns
returns c = search (rules, months)
