-- `stop_lines::put_numbered` meets its contract.
use Rattle.std.proofs.Common.{rules}
use Rattle.text.proofs.Chains.{chain3}
use Rattle.stop_lines.proofs.put_numbered.Goals as goal

pub returns : goal.returns
returns c = search (rules, chain3)
