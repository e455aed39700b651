-- `musig2::leaf_fits` meets its contract.
use Rattle.std.proofs.Common.{rules}
use Rattle.musig2.proofs.Joins.{key_lengths}
use Rattle.musig2.proofs.leaf_fits.Goals as goal

pub returns-then-leaf-eq0 : goal.returns-then-leaf-eq0
returns-then-leaf-eq0 c = search (rules, key_lengths)

pub returns-else-leaf-eq0 : goal.returns-else-leaf-eq0
returns-else-leaf-eq0 c = search (rules, key_lengths)
