-- `known_so_far::note_pair` notes a pair by the kind of its map.
use Rattle.std.proofs.Common.{rules}
use Rattle.known_so_far.specs.SoFar.{note, note_by}
use Rattle.known_so_far.proofs.Parts.{pair_notes}
use Rattle.known_so_far.proofs.note_pair.Goals as goal

pub returns-then-key-ne1 : goal.returns-then-key-ne1
returns-then-key-ne1 c = search (rules, pair_notes)

pub returns-in-Global : goal.returns-in-Global
returns-in-Global c = search (rules, pair_notes)

pub returns-in-Input : goal.returns-in-Input
unfolding note note_by
returns-in-Input c = search (rules, pair_notes)

pub returns-in-Output : goal.returns-in-Output
returns-in-Output c = search (rules, pair_notes)
