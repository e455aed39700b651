-- `known_so_far::note_output` notes each field of an output.
use Rattle.std.proofs.Common.{rules}
use Rattle.known_so_far.proofs.Parts.{note_seen}
use Rattle.known_so_far.proofs.note_output.Goals as goal

pub returns : goal.returns
returns c = search (rules, note_seen)
