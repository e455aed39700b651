-- `stop_lines::place_at` meets its contract.
use Rattle.std.proofs.Common.{rules}
use Rattle.stop_lines.proofs.Places.{places}
use Rattle.stop_lines.proofs.place_at.Goals as goal

pub returns-then-is_one_of : goal.returns-then-is_one_of
returns-then-is_one_of c = search (rules, places)

pub returns-then-maps-eq0 : goal.returns-then-maps-eq0
returns-then-maps-eq0 c = search (rules, places)

pub returns-then-is_one_of-2 : goal.returns-then-is_one_of-2
returns-then-is_one_of-2 c = search (rules, places)

pub returns : goal.returns
returns c = search (rules, places)
