-- `keys::compare_blocks` meets its contract, from the place behind the equal blocks on. The loop's
-- invariant: the order from `i` on is that of the whole. The measure is what is left of `a`.
use Rattle.std.proofs.Common.{rules}
use Rattle.keys.proofs.Orders.{orders}
use Rattle.keys.proofs.compare_blocks.Goals as goal

pub returns-then-a-i : goal.returns-then-a-i
returns-then-a-i c = search (rules, orders)

pub returns-then-b-i : goal.returns-then-b-i
returns-then-b-i c = search (rules, orders)

pub loop-i-preserved : goal.loop-i-preserved
loop-i-preserved c = search (rules, orders)

pub returns-then-a-b : goal.returns-then-a-b
returns-then-a-b c = search (rules, orders)

pub returns-then-b-a : goal.returns-then-b-a
returns-then-b-a c = search (rules, orders)

pub returns-else-b-a : goal.returns-else-b-a
returns-else-b-a c = search (rules, orders)
