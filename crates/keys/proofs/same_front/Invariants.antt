-- The loop's invariant: the order from `i` on is that of the whole, and `i` stays in `a`. The measure is what is left of `a`.
use Rattle.std.proofs.Common.{length, ◌-◌}
use Rattle.keys.specs.Fronts.{Front}
use Rattle.keys.proofs.same_front.Given as goal

abbrev pub invariant-loop-i : goal.invariant-loop-i
invariant-loop-i l = Front l.a l.b l.i

abbrev pub decreases-loop-i : goal.decreases-loop-i
decreases-loop-i l = length l.a - l.i
