-- `lock_lines::put_both` meets its contract.
use Rattle.std.proofs.Common.{rules}
use Rattle.lock_lines.specs.Lines.{both_line}
use Rattle.text.proofs.Chains.{chain5}
use Rattle.lock_lines.proofs.put_both.Goals as goal

pub returns : goal.returns
unfolding both_line
returns c = search (rules, chain5)
