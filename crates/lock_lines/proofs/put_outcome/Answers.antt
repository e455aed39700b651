-- `lock_lines::put_outcome` meets its contract.
use Rattle.std.proofs.Common.{rules}
use Rattle.lock_lines.specs.Lines.{outcome}
use Rattle.text.proofs.Chains.{chain4}
use Rattle.lock_lines.proofs.put_outcome.Goals as goal

pub returns : goal.returns
unfolding outcome
returns c = search (rules, chain4)
