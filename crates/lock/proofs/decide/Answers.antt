-- `lock::decide` meets its contract.
use Rattle.std.proofs.Common.{rules}
use Rattle.lock.proofs.Locks.{faults}
use Rattle.lock.proofs.decide.Goals as goal

pub returns-in-None : goal.returns-in-None
returns-in-None c = search (rules, faults)

pub returns-in-Some : goal.returns-in-Some
returns-in-Some c = search (rules, faults)
