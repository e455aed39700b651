-- `lock_lines::put_input` meets its contract.
use Rattle.std.proofs.Common.{rules}
use Rattle.lock_lines.specs.Lines.{input_line}
use Rattle.text.proofs.Chains.{chain6}
use Rattle.lock_lines.proofs.put_input.Goals as goal

pub returns : goal.returns
unfolding input_line
returns c = search (rules, chain6)
