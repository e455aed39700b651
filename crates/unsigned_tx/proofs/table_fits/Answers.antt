-- `unsigned_tx::table_fits` meets its contract.
use Rattle.std.proofs.Common.{rules}
use Rattle.unsigned_tx.proofs.Judges.{tables}
use Rattle.unsigned_tx.proofs.table_fits.Goals as goal

pub returns-then-not-state : goal.returns-then-not-state
returns-then-not-state c = search (rules, tables)

pub returns-else-not-state : goal.returns-else-not-state
returns-else-not-state c = search (rules, tables)
