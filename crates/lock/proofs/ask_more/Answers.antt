-- `lock::ask_more` meets its contract.
use Rattle.std.proofs.Common.{rules}
use Rattle.lock.proofs.Wishes.{mores}
use Rattle.lock.proofs.ask_more.Goals as goal

pub returns-in-Nothing : goal.returns-in-Nothing
returns-in-Nothing c = search (rules, mores)

pub returns-in-Number : goal.returns-in-Number
returns-in-Number c = search (rules, mores)
