-- `lookup::length_fits` meets its contract.
use Rattle.std.proofs.Common.{rules}
use Rattle.lookup.proofs.Finds.{lengths}
use Rattle.lookup.proofs.length_fits.Goals as goal

pub returns-in-AnyLength : goal.returns-in-AnyLength
returns-in-AnyLength c = search (rules, lengths)

pub returns-in-Exactly : goal.returns-in-Exactly
returns-in-Exactly c = search (rules, lengths)

pub returns-then-n-ne0 : goal.returns-then-n-ne0
returns-then-n-ne0 c = search (rules, lengths)

pub returns-else-n-ne0 : goal.returns-else-n-ne0
returns-else-n-ne0 c = search (rules, lengths)
