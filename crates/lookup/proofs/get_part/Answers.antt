-- `lookup::get_part` meets its contract.
use Rattle.std.proofs.Common.{rules}
use Rattle.lookup.proofs.Finds.{part_is}
use Rattle.lookup.proofs.get_part.Goals as goal

pub returns : goal.returns
returns c = search (rules, part_is)
