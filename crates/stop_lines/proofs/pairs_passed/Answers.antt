-- `stop_lines::pairs_passed` meets its contract.
use Rattle.std.proofs.Common.{rules}
use Rattle.stop_lines.specs.Stops.{pairs_passed}
use Rattle.stop_lines.proofs.pairs_passed.Goals as goal

pub returns : goal.returns
unfolding pairs_passed
returns c = search rules
