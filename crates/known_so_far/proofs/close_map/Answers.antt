-- `known_so_far::close_map` ends a map by its kind.
use Rattle.std.proofs.Common.{rules}
use Rattle.known_so_far.specs.SoFar.{close, close_by}
use Rattle.known_so_far.proofs.Ends.{closes}
use Rattle.known_so_far.proofs.close_map.Goals as goal

pub returns-in-Global : goal.returns-in-Global
returns-in-Global c = search (rules, closes)

pub returns-in-Input : goal.returns-in-Input
unfolding close close_by
returns-in-Input c = search (rules, closes)

pub returns-in-Output : goal.returns-in-Output
returns-in-Output c = search (rules, closes)
