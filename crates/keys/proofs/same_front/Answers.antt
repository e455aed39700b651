-- `keys::same_front` meets its contract: a block that both have in common is passed over.
use Rattle.keys.proofs.Blocks.{front_more}
use Rattle.keys.proofs.same_front.Goals as goal

pub loop-i-preserved : goal.loop-i-preserved
loop-i-preserved c =
    front_more _ _ _ c.loop-i.invariant _ _ _ c.loop-i-test.true c.if-b-i.false c.eight_at.ensures c.eight_at-in-loop-i.ensures
    c.if-eight_at.false c.type_inv.a c.type_inv.b
