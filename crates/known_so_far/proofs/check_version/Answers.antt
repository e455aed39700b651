-- `known_so_far::check_version` takes version 2 alone.
use Rattle.std.proofs.Common.{rules}
use Rattle.known_so_far.proofs.Parts.{globals}
use Rattle.known_so_far.proofs.check_version.Goals as goal

pub returns-then-unwrap_or-eq2 : goal.returns-then-unwrap_or-eq2
returns-then-unwrap_or-eq2 c = search (rules, globals)

pub returns-else-unwrap_or-eq2 : goal.returns-else-unwrap_or-eq2
returns-else-unwrap_or-eq2 c = search (rules, globals)
