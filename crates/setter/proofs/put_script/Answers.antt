-- `setter::put_script` meets its contract.
use Rattle.std.proofs.Common.{rules}
use Rattle.writer.proofs.Puts.{tagged}
use Rattle.setter.proofs.put_script.Goals as goal

pub returns : goal.returns
returns c = search (rules, tagged)
