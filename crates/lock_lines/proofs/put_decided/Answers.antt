-- `lock_lines::put_decided` meets its contract.
use Rattle.std.proofs.Common.{rules}
use Rattle.text.proofs.Chains.{chain4}
use Rattle.lock_lines.proofs.put_decided.Goals as goal

pub returns : goal.returns
returns c = search (rules, chain4)
