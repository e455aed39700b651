-- `stop_lines::put_after` meets its contract.
use Rattle.std.proofs.Common.{rules}
use Rattle.stop_lines.proofs.Places.{afters}
use Rattle.stop_lines.proofs.put_after.Goals as goal

pub returns-then-pairs-eq1 : goal.returns-then-pairs-eq1
returns-then-pairs-eq1 c = search (rules, afters)

pub returns : goal.returns
returns c = search (rules, afters)
