-- What was read stands at the front of the room. The measure is what is left of the room.
use Rattle.std.proofs.Common.{◌≤◌, ◌-◌, length, take}
use Rattle.std.specs.Io.KnownBytes.{Consumes}
use Rattle.rooms.proofs.read_full.Given as goal

abbrev pub invariant-loop-got : goal.invariant-loop-got
invariant-loop-got g l = (l.got ≤ length l.room) × Consumes (g.R.Read.remaining l.initial.from) (g.R.Read.remaining l.from) (take l.got l.room)

abbrev pub decreases-loop-got : goal.decreases-loop-got
decreases-loop-got g l = length l.room - l.got
