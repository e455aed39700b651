-- `musig2::joined_lookup` meets its contract: the parts are copied one after the other.
use Rattle.std.proofs.Common.{rules}
use Rattle.musig2.proofs.Joins.{joins}
use Rattle.musig2.proofs.joined_lookup.Goals as goal

pub returns : goal.returns
returns c = search (rules, joins)
