-- `setter::is_settable` meets its contract.
use Rattle.std.proofs.Common.{rules}
use Rattle.format.specs.Scripts.{settable}
use Rattle.setter.proofs.is_settable.Goals as goal

pub returns : goal.returns
unfolding settable
returns c = search rules
