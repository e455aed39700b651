-- `all_maps_fit::all_fit` meets its contract: the walk ends at the first map that is refused, or behind the last that is reported.
use Rattle.std.proofs.Common.{rules, arith, length, ◌^◌, ◌<◌}
use Rattle.format.proofs.Answers.{handed_on}
use Rattle.format.specs.Tables.{maps_reported}
use Rattle.entries.proofs.Tables.{map_count_lem}
use Rattle.all_maps_fit.proofs.Gathers.{all_passed, all_stop, all_more}
use Rattle.all_maps_fit.proofs.all_fit.Goals as goal

pub returns-in_err-fit_map : goal.returns-in_err-fit_map
unfolding maps_reported
returns-in_err-fit_map c =
    handed_on _ _ c.in_err-fit_map.field-0.0 c.from_residual.ensures.1
    (all_stop _ _ _ _ _ c.loop-m.invariant (omega arith) _ c.fit_map.ensures c.in_err-fit_map.field-0.0 c.in_err-fit_map.was)

pub loop-m-preserved : goal.loop-m-preserved
unfolding maps_reported
loop-m-preserved c = all_more _ _ _ _ _ c.loop-m.invariant (omega arith) _ c.fit_map.ensures _ c.in_ok-fit_map.was

pub returns : goal.returns
unfolding maps_reported
returns c =
    let few : length c.args.maps.now < 2 ^ 64 = search rules in
    all_passed _ _ _ _ _ c.loop-m.invariant (omega (arith, map_count_lem c.args.maps.now))
