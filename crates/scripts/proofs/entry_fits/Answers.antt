-- `scripts::entry_fits` meets its contract.
use Rattle.std.proofs.Common.{rules}
use Rattle.scripts.proofs.Tables.{fits}
use Rattle.scripts.proofs.entry_fits.Goals as goal

pub returns-then-has_script : goal.returns-then-has_script
returns-then-has_script c = search (rules, fits)

pub returns-else-has_script : goal.returns-else-has_script
returns-else-has_script c = search (rules, fits)
