-- `lookup::key_part` meets its contract.
use Rattle.std.proofs.Common.{rules}
use Rattle.lookup.proofs.Lists.{nth_parts}
use Rattle.lookup.proofs.key_part.Goals as goal

pub returns-in-Err : goal.returns-in-Err
returns-in-Err c = search (rules, nth_parts)

pub returns-in-Ok : goal.returns-in-Ok
returns-in-Ok c = search (rules, nth_parts)
