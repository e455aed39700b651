-- `lock_lines::put_height_decided` meets its contract.
use Rattle.std.proofs.Common.{rules}
use Rattle.lock_lines.specs.Lines.{height_decided}
use Rattle.lock_lines.proofs.put_height_decided.Goals as goal

pub returns : goal.returns
unfolding height_decided
returns c = search rules
