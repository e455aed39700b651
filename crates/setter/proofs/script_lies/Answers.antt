-- `setter::script_lies` meets its contract.
use Rattle.std.proofs.Common.{rules}
use Rattle.setter.proofs.Judges.{scripts_lie}
use Rattle.setter.proofs.script_lies.Goals as goal

pub returns-then-a-room : goal.returns-then-a-room
returns-then-a-room c = search (rules, scripts_lie)

pub returns-else-a-room : goal.returns-else-a-room
returns-else-a-room c = search (rules, scripts_lie)
