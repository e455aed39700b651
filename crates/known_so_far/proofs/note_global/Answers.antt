-- `known_so_far::note_global` notes each global field.
use Rattle.std.proofs.Common.{rules}
use Rattle.known_so_far.proofs.Parts.{note_fields}
use Rattle.known_so_far.proofs.note_global.Goals as goal

pub returns : goal.returns
returns c = search (rules, note_fields)
