-- `known_so_far::check_globals` is the rule of the global map.
use Rattle.std.proofs.Common.{rules}
use Rattle.known_so_far.proofs.Parts.{globals}
use Rattle.known_so_far.proofs.check_globals.Goals as goal

pub returns-then-has_counts : goal.returns-then-has_counts
returns-then-has_counts c = search (rules, globals)

pub returns-else-has_counts : goal.returns-else-has_counts
returns-else-has_counts c = search (rules, globals)
