-- `lookup::nth_key` meets its contract.
use Rattle.std.proofs.Common.{rules}
use Rattle.lookup.proofs.Lists.{key_is}
use Rattle.lookup.proofs.nth_key.Goals as goal

pub returns : goal.returns
returns c = search (rules, key_is)
