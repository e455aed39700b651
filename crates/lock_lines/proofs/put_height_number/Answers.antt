-- `lock_lines::put_height_number` meets its contract.
use Rattle.std.proofs.Common.{rules}
use Rattle.lock_lines.specs.Lines.{height_number}
use Rattle.text.proofs.Chains.{chain2}
use Rattle.lock_lines.proofs.put_height_number.Goals as goal

pub returns : goal.returns
unfolding height_number
returns c = search (rules, chain2)
