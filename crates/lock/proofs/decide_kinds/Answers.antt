-- `lock::decide_kinds` meets its contract.
use Rattle.std.proofs.Common.{rules}
use Rattle.lock.proofs.Locks.{kinds}
use Rattle.lock.proofs.decide_kinds.Goals as goal

pub returns-in-None-None : goal.returns-in-None-None
returns-in-None-None c = search (rules, kinds)

pub returns-in-None-Some : goal.returns-in-None-Some
returns-in-None-Some c = search (rules, kinds)

pub returns-in-Some-None : goal.returns-in-Some-None
returns-in-Some-None c = search (rules, kinds)

pub returns-in-Some-Some : goal.returns-in-Some-Some
returns-in-Some-Some c = search (rules, kinds)
