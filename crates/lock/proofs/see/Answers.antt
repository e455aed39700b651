-- `lock::see` meets its contract.
use Rattle.std.proofs.Common.{rules}
use Rattle.lock.proofs.Wishes.{see_is}
use Rattle.lock.proofs.see.Goals as goal

pub returns : goal.returns
returns c = search (rules, see_is)
