-- `lookup::part_of` meets its contract.
use Rattle.std.proofs.Common.{rules}
use Rattle.lookup.proofs.Finds.{answers}
use Rattle.lookup.proofs.part_of.Goals as goal

pub returns-in_default : goal.returns-in_default
returns-in_default c = search (rules, answers)

pub returns-in-Some : goal.returns-in-Some
returns-in-Some c = search (rules, answers, rw c.in-Some.is at c.in-Ok.is)

pub returns-in-None : goal.returns-in-None
returns-in-None c = search (rules, answers, rw c.in-None.is at c.in-Ok.is)
