-- The invariants of `read_maps`: `Loops.antt` says them.
use Rattle.std.proofs.Common.{length, ◌-◌}
use Rattle.psbt.proofs.Loops.{AtMaps, InMap}
use Rattle.psbt.proofs.read_maps.Given as goal

abbrev pub invariant-loop-x : goal.invariant-loop-x
invariant-loop-x l =
    InMap l.file l.initial.pairs l.maps l.initial.known l.initial.at l.initial.p l.m l.first l.initial.la l.initial.le l.pairs l.known l.at l.p l.la l.le

abbrev pub decreases-loop-x : goal.decreases-loop-x
decreases-loop-x l = length l.file - l.at

abbrev pub invariant-maps : goal.invariant-maps
invariant-maps l = AtMaps l.file l.initial.pairs l.initial.maps l.pairs l.maps l.known l.at l.p l.m

abbrev pub decreases-maps : goal.decreases-maps
decreases-maps l = length l.file - l.at
