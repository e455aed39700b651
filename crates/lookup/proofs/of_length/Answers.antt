-- `lookup::of_length` meets its contract: a value of a right length stays, absence too.
use Rattle.std.proofs.Common.{rules}
use Rattle.lookup.proofs.Finds.{values}
use Rattle.lookup.proofs.of_length.Goals as goal

pub returns-in-Some : goal.returns-in-Some
returns-in-Some c = search (rules, values)

pub returns-in_default : goal.returns-in_default
returns-in_default c = search (rules, values)

pub returns-in_default-2 : goal.returns-in_default-2
returns-in_default-2 c = search (rules, values)
