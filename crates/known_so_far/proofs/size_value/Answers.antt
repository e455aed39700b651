-- `known_so_far::size_value` is the definition's.
use Rattle.std.proofs.Common.{rules}
use Rattle.known_so_far.proofs.Parts.{sizes_of}
use Rattle.known_so_far.proofs.size_value.Goals as goal

pub returns-in-Err : goal.returns-in-Err
returns-in-Err c = search (rules, sizes_of)

pub returns-in-Ok : goal.returns-in-Ok
returns-in-Ok c = search (rules, sizes_of)
