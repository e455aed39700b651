-- `known_so_far::has_counts` tells whether all is there that has to be.
use Rattle.std.proofs.Common.{rules}
use Rattle.known_so_far.proofs.Parts.{all_theres}
use Rattle.known_so_far.proofs.has_counts.Goals as goal

pub returns-then-g-2 : goal.returns-then-g-2
returns-then-g-2 c = search (rules, all_theres)

pub returns-else-g-2 : goal.returns-else-g-2
returns-else-g-2 c = search (rules, all_theres)

pub returns-else-g : goal.returns-else-g
returns-else-g c = search (rules, all_theres)

pub returns-else-is_some : goal.returns-else-is_some
returns-else-is_some c = search (rules, all_theres)
