-- `scripts::is_taproot` meets its contract.
use Rattle.std.proofs.Common.{rules}
use Rattle.scripts.proofs.Tables.{taproots}
use Rattle.scripts.proofs.is_taproot.Goals as goal

pub returns-then-script-eq81 : goal.returns-then-script-eq81
returns-then-script-eq81 c = search (rules, taproots)

pub returns-else-script-eq81 : goal.returns-else-script-eq81
returns-else-script-eq81 c = search (rules, taproots)
