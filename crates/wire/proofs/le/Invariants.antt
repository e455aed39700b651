-- The loop's invariant: read from the back, `v` is the number that the bytes so far spell.
use Rattle.std.proofs.Common.{◌≡◌, ◌-◌, ◌≤◌, length, drop}
use Rattle.format.specs.Numbers.{le}
use Rattle.wire.proofs.le.Given as goal

abbrev pub invariant-loop-b : goal.invariant-loop-b
invariant-loop-b l = (length l.yielded ≤ length l.s) × (l.v ≡ le (drop (length l.s - length l.yielded) l.s))
