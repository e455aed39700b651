-- `entries::pair_from` meets its contract.
use Rattle.std.proofs.Common.{rules}
use Rattle.entries.specs.Words.{pair_from}
use Rattle.entries.proofs.pair_from.Goals as goal

pub returns : goal.returns
unfolding pair_from
returns c = search rules
