-- `utc::put_two` meets its contract.
use Rattle.std.proofs.Common.{rules}
use Rattle.utc.proofs.Pieces.{twos}
use Rattle.utc.proofs.put_two.Goals as goal

pub returns-then-n-lt10 : goal.returns-then-n-lt10
returns-then-n-lt10 c = search (rules, twos)

pub returns : goal.returns
returns c = search (rules, twos)
