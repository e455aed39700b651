-- `keys::same_four` meets its contract: a block that both have in common is passed over.
use Rattle.keys.proofs.Blocks.{front_more}
use Rattle.keys.proofs.same_four.Goals as goal

pub returns : goal.returns
returns c =
    front_more _ _ _ c.requires _ _ _ c.if-a-i.false c.if-b-i.false c.four_at.ensures c.four_at-2.ensures c.if-four_at.false
    c.type_inv.a c.type_inv.b
