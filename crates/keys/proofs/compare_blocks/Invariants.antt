-- The loop's invariant: the order from `i` on is that of the whole, and `i` stays in `a`.
use Rattle.std.proofs.Common.{◌≤◌, length}
use Rattle.keys.proofs.Orders.{On}
use Rattle.keys.proofs.compare_blocks.Given as goal

abbrev pub invariant-loop-i : goal.invariant-loop-i
invariant-loop-i l = (On l.a l.b l.i) × (l.i ≤ length l.a)
