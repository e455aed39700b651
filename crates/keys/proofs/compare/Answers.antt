-- `keys::compare` meets its contract: where the first bytes differ they decide.
use Rattle.std.proofs.Common.{rules}
use Rattle.keys.proofs.Orders.{firsts}
use Rattle.keys.proofs.compare.Goals as goal

pub returns-then-is_empty-2 : goal.returns-then-is_empty-2
returns-then-is_empty-2 c = search (rules, firsts)

pub returns-then-a-b : goal.returns-then-a-b
returns-then-a-b c = search (rules, firsts)

pub returns-then-b-a : goal.returns-then-b-a
returns-then-b-a c = search (rules, firsts)
