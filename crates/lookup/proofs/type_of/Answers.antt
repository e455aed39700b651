-- `lookup::type_of` meets its contract.
use Rattle.std.proofs.Common.{rules}
use Rattle.lookup.proofs.Lists.{types}
use Rattle.lookup.proofs.type_of.Goals as goal

pub returns-then-key-eq0 : goal.returns-then-key-eq0
returns-then-key-eq0 c = search (rules, types)

pub returns-else-key-eq0 : goal.returns-else-key-eq0
returns-else-key-eq0 c = search (rules, types)
