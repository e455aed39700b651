-- `lookup::is_listed` meets its contract.
use Rattle.std.proofs.Common.{rules}
use Rattle.lookup.proofs.Lists.{types}
use Rattle.lookup.proofs.is_listed.Goals as goal

pub returns : goal.returns
returns c = search (rules, types)
