-- `keys::four_at` meets its contract: the number of a part that is four bytes long.
use Rattle.std.proofs.Common.{rules}
use Rattle.keys.proofs.Blocks.{numbers}
use Rattle.keys.proofs.four_at.Goals as goal

pub returns : goal.returns
returns c = search (rules, numbers)
