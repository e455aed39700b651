-- `stop_lines::pairs_before` meets its contract.
use Rattle.std.proofs.Common.{rules}
use Rattle.stop_lines.proofs.Places.{befores}
use Rattle.stop_lines.proofs.pairs_before.Goals as goal

pub returns-then-m-eq0 : goal.returns-then-m-eq0
returns-then-m-eq0 c = search (rules, befores)

pub overflow_add-result : goal.overflow_add-result
overflow_add-result c = search (rules, befores)

pub returns : goal.returns
returns c = search (rules, befores)
