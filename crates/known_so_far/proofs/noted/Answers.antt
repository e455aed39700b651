-- `known_so_far::noted` reads a field from its own pair.
use Rattle.std.proofs.Common.{rules}
use Rattle.known_so_far.proofs.Parts.{notes}
use Rattle.known_so_far.proofs.noted.Goals as goal

pub returns-then-is_bare : goal.returns-then-is_bare
returns-then-is_bare c = search (rules, notes)

pub returns-else-is_bare : goal.returns-else-is_bare
returns-else-is_bare c = search (rules, notes)
