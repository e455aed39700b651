-- `known_so_far::start_map` begins the next map.
use Rattle.std.proofs.Common.{rules}
use Rattle.known_so_far.proofs.Ends.{starts}
use Rattle.known_so_far.proofs.start_map.Goals as goal

pub returns-then-known-gt0 : goal.returns-then-known-gt0
returns-then-known-gt0 c = search (rules, starts)

pub returns-then-known-gt0-2 : goal.returns-then-known-gt0-2
returns-then-known-gt0-2 c = search (rules, starts)

pub returns : goal.returns
returns c = search (rules, starts)
