-- `silent_payments::global::get_sp_ecdh_share` meets its contract: the map first, and then what is asked of it.
use Rattle.std.proofs.Common.{rules}
use Rattle.format.specs.Fields.{global_share}
use Rattle.format.proofs.Answers.{hands_on}
use Rattle.fitness.proofs.Maps.{fits, map_held}
use Rattle.silent_payments.proofs.Scans.{scans}
use Rattle.silent_payments.proofs.global.get_sp_ecdh_share.Goals as goal

pub returns-in_err-m : goal.returns-in_err-m
unfolding global_share
returns-in_err-m c = rw (hands_on _ c.in_err-m.field-0.0 c.from_residual.ensures.1) (search (rules, map_held, scans, c.in_err-m.was))

pub scan_lookup-requires : goal.scan_lookup-requires
scan_lookup-requires c = search (rules, fits, c.in_ok-m.was)

pub returns : goal.returns
unfolding global_share
returns c = search (rules, map_held, scans, c.in_ok-m.was)
