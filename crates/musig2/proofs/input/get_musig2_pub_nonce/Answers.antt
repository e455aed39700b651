-- `musig2::input::get_musig2_pub_nonce` meets its contract: the map first, and then what is asked of it.
use Rattle.std.proofs.Common.{rules}
use Rattle.format.specs.Fields.{pub_nonce}
use Rattle.format.proofs.Answers.{hands_on}
use Rattle.fitness.proofs.Maps.{fits, input_held}
use Rattle.musig2.proofs.Joins.{of_maps}
use Rattle.musig2.proofs.input.get_musig2_pub_nonce.Goals as goal

pub returns-in_err-m : goal.returns-in_err-m
unfolding pub_nonce
returns-in_err-m c = rw (hands_on _ c.in_err-m.field-0.0 c.from_residual.ensures.1) (search (rules, input_held, of_maps, c.in_err-m.was))

pub musig_lookup-requires : goal.musig_lookup-requires
musig_lookup-requires c = search (rules, fits, c.in_ok-m.was)

pub returns : goal.returns
unfolding pub_nonce
returns c = search (rules, input_held, of_maps, c.in_ok-m.was)
