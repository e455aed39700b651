-- `lock::raise` meets its contract.
use Rattle.std.proofs.Common.{rules}
use Rattle.lock.proofs.Wishes.{raises}
use Rattle.lock.proofs.raise.Goals as goal

pub returns-in-None : goal.returns-in-None
returns-in-None c = search (rules, raises)

pub returns-in-Some : goal.returns-in-Some
returns-in-Some c = search (rules, raises)

pub returns-in-Some-2 : goal.returns-in-Some-2
returns-in-Some-2 c = search (rules, raises)
