-- `musig2::output::get_musig2_participant_pubkeys` meets its contract: the map first, and then what is asked of it.
use Rattle.std.proofs.Common.{rules}
use Rattle.format.proofs.Answers.{hands_on}
use Rattle.fitness.proofs.Maps.{fits, output_held}
use Rattle.musig2.proofs.Joins.{of_maps}
use Rattle.musig2.proofs.output.get_musig2_participant_pubkeys.Goals as goal

pub returns-in_err-m : goal.returns-in_err-m
returns-in_err-m c = rw (hands_on _ c.in_err-m.field-0.0 c.from_residual.ensures.1) (search (rules, output_held, of_maps, c.in_err-m.was))

pub asked_in-requires : goal.asked_in-requires
asked_in-requires c = search (rules, fits, c.in_ok-m.was)

pub returns : goal.returns
returns c = search (rules, output_held, of_maps, c.in_ok-m.was)
