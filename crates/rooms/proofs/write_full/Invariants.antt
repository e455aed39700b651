-- What was written is the text's front, and the rest is what stands behind it. The measure is how long the rest is.
use Rattle.std.proofs.Common.{length}
use Rattle.rooms.proofs.Inputs.{Writing}
use Rattle.rooms.proofs.write_full.Given as goal

abbrev pub invariant-loop-rest : goal.invariant-loop-rest
invariant-loop-rest g l = Writing (g.W.Write.contents l.initial.to) (g.W.Write.contents l.to) l.text l.rest

abbrev pub decreases-loop-rest : goal.decreases-loop-rest
decreases-loop-rest g l = length l.rest
