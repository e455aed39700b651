-- `tx_size::script_at` meets its contract.
use Rattle.std.proofs.Common.{rules}
use Rattle.tx_size.proofs.Scripts.{scripts_at}
use Rattle.tx_size.proofs.script_at.Goals as goal

pub returns-in-Some : goal.returns-in-Some
returns-in-Some c = search (rules, scripts_at)

pub returns-in-None : goal.returns-in-None
returns-in-None c = search (rules, scripts_at)

pub returns-in-None-2 : goal.returns-in-None-2
returns-in-None-2 c = search (rules, scripts_at)
