-- `lock_lines::put_time_decided` meets its contract.
use Rattle.std.proofs.Common.{rules}
use Rattle.lock_lines.specs.Lines.{time_decided}
use Rattle.lock_lines.proofs.put_time_decided.Goals as goal

pub returns : goal.returns
unfolding time_decided
returns c = search rules
