-- `setter::is_served` meets its contract.
use Rattle.std.proofs.Common.{rules}
use Rattle.setter.proofs.Rights.{serves}
use Rattle.setter.proofs.is_served.Goals as goal

pub returns-then-has_script : goal.returns-then-has_script
returns-then-has_script g c = search (rules, serves)

pub returns-else-has_script : goal.returns-else-has_script
returns-else-has_script g c = search (rules, serves)
