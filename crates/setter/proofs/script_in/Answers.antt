-- `setter::script_in` meets its contract.
use Rattle.std.proofs.Common.{rules}
use Rattle.setter.proofs.Judges.{script_is}
use Rattle.setter.proofs.script_in.Goals as goal

pub returns : goal.returns
returns c = search (rules, script_is)
