-- `lock::see_at` meets its contract.
use Rattle.std.proofs.Common.{rules}
use Rattle.lock.proofs.Wishes.{see_at}
use Rattle.lock.proofs.see_at.Goals as goal

pub returns : goal.returns
returns c = search (rules, see_at)
