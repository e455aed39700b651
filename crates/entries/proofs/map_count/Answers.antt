-- `entries::map_count` meets its contract.
use Rattle.std.proofs.Common.{rules}
use Rattle.entries.proofs.Tables.{map_count_lem}
use Rattle.entries.proofs.map_count.Goals as goal

pub returns : goal.returns
returns c = search (rules, map_count_lem)
