-- `reasons::line` meets its contract.
use Rattle.std.proofs.Common.{rules}
use Rattle.reasons.proofs.Rows.{lines}
use Rattle.reasons.proofs.line.Goals as goal

pub returns : goal.returns
returns c = search (rules, lines)
