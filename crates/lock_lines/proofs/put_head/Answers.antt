-- `lock_lines::put_head` meets its contract.
use Rattle.std.proofs.Common.{rules}
use Rattle.lock_lines.specs.Lines.{head_line}
use Rattle.text.proofs.Chains.{chain5}
use Rattle.lock_lines.proofs.put_head.Goals as goal

pub returns : goal.returns
unfolding head_line
returns c = search (rules, chain5)
