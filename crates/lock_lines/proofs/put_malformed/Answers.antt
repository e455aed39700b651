-- `lock_lines::put_malformed` meets its contract.
use Rattle.std.proofs.Common.{rules}
use Rattle.lock_lines.specs.Lines.{malformed_line}
use Rattle.text.proofs.Chains.{chain3}
use Rattle.lock_lines.proofs.put_malformed.Goals as goal

pub returns : goal.returns
unfolding malformed_line
returns c = search (rules, chain3)
