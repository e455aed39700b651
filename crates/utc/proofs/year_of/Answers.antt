-- `utc::year_of` meets its contract. The invariant: the year of the day that is left, from year `y` on, is the year of the whole. The measure is what is left.
use Rattle.std.proofs.Common.{rules}
use Rattle.utc.proofs.Stands.{years}
use Rattle.utc.proofs.year_of.Goals as goal

pub loop-year-init : goal.loop-year-init
loop-year-init c = search (rules, years)

pub returns-then-left-long : goal.returns-then-left-long
returns-then-left-long c = search (rules, years)

pub loop-year-preserved : goal.loop-year-preserved
loop-year-preserved c = search (rules, years)

pub returns : goal.returns
returns c = search (rules, years)
