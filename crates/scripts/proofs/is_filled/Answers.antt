-- `scripts::is_filled` meets its contract.
use Rattle.std.proofs.Common.{rules}
use Rattle.scripts.proofs.Tables.{fills}
use Rattle.scripts.proofs.is_filled.Goals as goal

pub returns-then-entry-eq1 : goal.returns-then-entry-eq1
returns-then-entry-eq1 c = search (rules, fills)

pub returns-else-entry-eq1 : goal.returns-else-entry-eq1
returns-else-entry-eq1 c = search (rules, fills)
