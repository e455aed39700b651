-- `stop_lines::put_place` meets its contract.
use Rattle.std.proofs.Common.{rules}
use Rattle.stop_lines.proofs.Places.{stop_lines}
use Rattle.stop_lines.specs.Stops.{stop_line}
use Rattle.stop_lines.proofs.put_place.Goals as goal

pub returns-in-Nowhere : goal.returns-in-Nowhere
unfolding stop_line
returns-in-Nowhere c = search (rules, stop_lines)

pub returns-in-Global : goal.returns-in-Global
unfolding stop_line
returns-in-Global c = search (rules, stop_lines)

pub returns-in-GlobalEnd : goal.returns-in-GlobalEnd
unfolding stop_line
returns-in-GlobalEnd c = search (rules, stop_lines)

pub returns-in-Input : goal.returns-in-Input
unfolding stop_line
returns-in-Input c = search (rules, stop_lines)

pub returns-in-Output : goal.returns-in-Output
unfolding stop_line
returns-in-Output c = search (rules, stop_lines)

pub returns-in-Behind : goal.returns-in-Behind
unfolding stop_line
returns-in-Behind c = search (rules, stop_lines)
