-- `known_so_far::is_modifiable` masks the two low flags.
use Rattle.std.proofs.Common.{rules}
use Rattle.known_so_far.proofs.Parts.{low_flags}
use Rattle.known_so_far.proofs.is_modifiable.Goals as goal

pub returns : goal.returns
returns c = search (rules, low_flags)
