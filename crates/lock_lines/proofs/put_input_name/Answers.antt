-- `lock_lines::put_input_name` meets its contract.
use Rattle.std.proofs.Common.{rules}
use Rattle.text.proofs.Chains.{chain2}
use Rattle.lock_lines.proofs.put_input_name.Goals as goal

pub returns : goal.returns
returns c = search (rules, chain2)
