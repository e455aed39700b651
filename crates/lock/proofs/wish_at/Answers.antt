-- `lock::wish_at` meets its contract.
use Rattle.std.proofs.Common.{rules}
use Rattle.lock.proofs.Wishes.{wishes}
use Rattle.lock.proofs.wish_at.Goals as goal

pub returns-in-Missing : goal.returns-in-Missing
returns-in-Missing c = search (rules, wishes)

pub returns-in-Misfit : goal.returns-in-Misfit
returns-in-Misfit c = search (rules, wishes)

pub returns-in-At : goal.returns-in-At
returns-in-At c = search (rules, wishes)
