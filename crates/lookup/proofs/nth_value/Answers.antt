-- `lookup::nth_value` meets its contract.
use Rattle.std.proofs.Common.{rules}
use Rattle.lookup.proofs.Lists.{value_is}
use Rattle.lookup.proofs.nth_value.Goals as goal

pub returns : goal.returns
returns c = search (rules, value_is)
