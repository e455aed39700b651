-- `all_maps_fit::all_fit` meets its contract. The loop's invariant: what the maps from number `m` on say is what all say.
use Rattle.all_maps_fit.proofs.Gathers.{Going}
use Rattle.all_maps_fit.proofs.all_fit.Given as goal

abbrev pub invariant-loop-m : goal.invariant-loop-m
invariant-loop-m l = Going l.file l.pairs l.maps l.fn.psbt l.m
