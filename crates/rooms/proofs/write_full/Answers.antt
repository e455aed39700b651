-- `rooms::write_full` meets its contract: each write goes on where the one before it ended.
use Rattle.rooms.proofs.Inputs.{write_more}
use Rattle.rooms.proofs.write_full.Goals as goal

pub loop-rest-preserved : goal.loop-rest-preserved
loop-rest-preserved g c = write_more _ _ _ _ _ c.loop-rest.invariant _ c.in_ok-took.ensures.bound c.in_ok-took.ensures.bytes
