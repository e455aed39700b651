-- `scripts::is_blank` meets its contract.
use Rattle.std.proofs.Common.{rules}
use Rattle.scripts.proofs.Tables.{blank_by}
use Rattle.scripts.proofs.is_blank.Goals as goal

pub returns : goal.returns
returns c = search (rules, blank_by)
