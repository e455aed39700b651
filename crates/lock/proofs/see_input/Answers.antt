-- `lock::see_input` meets its contract.
use Rattle.std.proofs.Common.{rules}
use Rattle.lock.proofs.Wishes.{sees}
use Rattle.lock.proofs.see_input.Goals as goal

pub returns : goal.returns
returns c = search (rules, sees)
