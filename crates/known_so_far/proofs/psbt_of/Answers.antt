-- `known_so_far::psbt_of` reports what was noted.
use Rattle.std.proofs.Common.{rules}
use Rattle.known_so_far.proofs.Parts.{report}
use Rattle.known_so_far.proofs.psbt_of.Goals as goal

pub returns : goal.returns
returns c = search (rules, report)
