-- `stop_lines::count_shown` meets its contract.
use Rattle.std.proofs.Common.{rules}
use Rattle.stop_lines.proofs.Places.{counts}
use Rattle.stop_lines.proofs.count_shown.Goals as goal

pub returns-in-Ok : goal.returns-in-Ok
returns-in-Ok c = search (rules, counts)

pub returns-in-Err : goal.returns-in-Err
returns-in-Err c = search (rules, counts)
