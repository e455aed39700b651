-- `lock_lines::put_time_number` meets its contract.
use Rattle.std.proofs.Common.{rules}
use Rattle.lock_lines.specs.Lines.{time_number}
use Rattle.text.proofs.Chains.{chain5}
use Rattle.lock_lines.proofs.put_time_number.Goals as goal

pub returns : goal.returns
unfolding time_number
returns c = search (rules, chain5)
