-- `stop_lines::stopped` meets its contract.
use Rattle.std.proofs.Common.{rules}
use Rattle.stop_lines.proofs.Places.{stopped_is}
use Rattle.stop_lines.proofs.stopped.Goals as goal

pub returns : goal.returns
returns c = search (rules, stopped_is)
