-- `entries::map_from` meets its contract.
use Rattle.std.proofs.Common.{rules}
use Rattle.entries.specs.Words.{map_from}
use Rattle.entries.proofs.map_from.Goals as goal

pub returns : goal.returns
unfolding map_from
returns c = search rules
