-- `rooms::read_full` meets its contract: each read goes on where the one before it ended.
use Rattle.std.proofs.Common.{rules}
use Rattle.rooms.proofs.Inputs.{read_more}
use Rattle.rooms.proofs.read_full.Goals as goal

pub loop-got-preserved : goal.loop-got-preserved
loop-got-preserved g c =
    (search rules, read_more _ _ _ _ _ _ _ c.loop-got.invariant.0 c.in_ok-n.ensures.bound.0 c.loop-got.invariant.1 c.in_ok-n.ensures.bytes.0)
