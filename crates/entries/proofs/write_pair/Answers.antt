-- `entries::write_pair` meets its contract.
use Rattle.std.proofs.Common.{rules}
use Rattle.entries.proofs.Tables.{pair_put}
use Rattle.entries.proofs.write_pair.Goals as goal

pub returns : goal.returns
returns c = search (rules, pair_put)
