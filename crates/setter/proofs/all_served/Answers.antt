-- `setter::all_served` meets its contract.
use Rattle.std.proofs.Common.{rules}
use Rattle.setter.proofs.Rights.{servings}
use Rattle.setter.proofs.all_served.Goals as goal

pub returns-then-not-is_served : goal.returns-then-not-is_served
returns-then-not-is_served g c = search (rules, servings)

pub loop-i-preserved : goal.loop-i-preserved
loop-i-preserved g c = search (rules, servings)

pub returns : goal.returns
returns g c = search (rules, servings)
