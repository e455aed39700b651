-- `known_so_far::close_output` ends an output.
use Rattle.std.proofs.Common.{rules}
use Rattle.known_so_far.proofs.Ends.{close_seen}
use Rattle.known_so_far.proofs.close_output.Goals as goal

pub returns : goal.returns
returns c = search (rules, close_seen)
