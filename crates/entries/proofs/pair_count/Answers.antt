-- `entries::pair_count` meets its contract.
use Rattle.std.proofs.Common.{rules}
use Rattle.entries.proofs.Tables.{pair_count_lem}
use Rattle.entries.proofs.pair_count.Goals as goal

pub returns : goal.returns
returns c = search (rules, pair_count_lem)
