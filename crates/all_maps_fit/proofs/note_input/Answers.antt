-- `all_maps_fit::note_input` meets its contract: each field takes the pair or leaves it.
use Rattle.std.proofs.Common.{rules}
use Rattle.all_maps_fit.proofs.Inputs.{notes}
use Rattle.all_maps_fit.proofs.note_input.Goals as goal

pub returns-then-key-ne1 : goal.returns-then-key-ne1
returns-then-key-ne1 c = search (rules, notes)

pub returns : goal.returns
returns c = search (rules, notes)
