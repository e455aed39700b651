-- `lock::all_asks` meets its contract.
use Rattle.std.proofs.Common.{rules}
use Rattle.lock.proofs.Locks.{walks}
use Rattle.lock.proofs.all_asks.Goals as goal

pub loop-i-init : goal.loop-i-init
loop-i-init c = search (rules, walks)

pub see_input-asks-requires : goal.see_input-asks-requires
see_input-asks-requires c = search (rules, walks)

pub loop-i-preserved : goal.loop-i-preserved
loop-i-preserved c = search (rules, walks)

pub returns : goal.returns
returns c = search (rules, walks)
