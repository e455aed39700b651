-- `musig2::input::get_musig2_participant_pubkeys` meets its contract: the map first, the lengths, and then what is asked of it.
use Rattle.std.proofs.Common.{rules}
use Rattle.format.proofs.Answers.{hands_on}
use Rattle.fitness.proofs.Maps.{fits, input_held}
use Rattle.musig2.proofs.Joins.{of_maps, list_short}
use Rattle.musig2.proofs.input.get_musig2_participant_pubkeys.Goals as goal

pub returns-in_err-m : goal.returns-in_err-m
returns-in_err-m c = rw (hands_on _ c.in_err-m.field-0.0 c.from_residual.ensures.1) (search (rules, input_held, of_maps, c.in_err-m.was))

pub returns-then-not-key_fits : goal.returns-then-not-key_fits
returns-then-not-key_fits c = search (rules, input_held, of_maps, c.in_ok-m.was)

pub joined_lookup-requires-clause-within : goal.joined_lookup-requires-clause-within
joined_lookup-requires-clause-within c = search (rules, fits, c.in_ok-m.was)

pub joined_lookup-requires-clause-short : goal.joined_lookup-requires-clause-short
joined_lookup-requires-clause-short c = search (rules, list_short)

pub returns : goal.returns
returns c = search (rules, input_held, of_maps, c.in_ok-m.was)
