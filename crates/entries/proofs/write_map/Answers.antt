-- `entries::write_map` meets its contract.
use Rattle.std.proofs.Common.{rules}
use Rattle.entries.proofs.Tables.{map_put}
use Rattle.entries.proofs.write_map.Goals as goal

pub returns : goal.returns
returns c = search (rules, map_put)
