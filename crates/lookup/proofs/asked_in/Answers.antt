-- `lookup::asked_in` meets its contract: the asked key's length, and then the value's.
use Rattle.std.proofs.Common.{rules}
use Rattle.lookup.proofs.Finds.{askings}
use Rattle.lookup.proofs.asked_in.Goals as goal

pub returns-then-not-ok : goal.returns-then-not-ok
returns-then-not-ok c = search (rules, askings)

pub returns : goal.returns
returns c = search (rules, askings)
