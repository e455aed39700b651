-- `lock_lines::put_misread` meets its contract.
use Rattle.std.proofs.Common.{rules}
use Rattle.text.proofs.Chains.{chain5}
use Rattle.lock_lines.proofs.put_misread.Goals as goal

pub returns : goal.returns
returns c = search (rules, chain5)
