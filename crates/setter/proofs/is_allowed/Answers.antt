-- `setter::is_allowed` meets its contract.
use Rattle.std.proofs.Common.{rules}
use Rattle.setter.proofs.Judges.{alloweds}
use Rattle.setter.proofs.is_allowed.Goals as goal

pub returns-then-a-outputs : goal.returns-then-a-outputs
returns-then-a-outputs c = search (rules, alloweds)

pub returns-else-a-outputs : goal.returns-else-a-outputs
returns-else-a-outputs c = search (rules, alloweds)
