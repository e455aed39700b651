-- `setter::put_given` meets its contract.
use Rattle.std.proofs.Common.{rules}
use Rattle.setter.proofs.Fills.{puts_given}
use Rattle.setter.proofs.put_given.Goals as goal

pub script_in-requires : goal.script_in-requires
script_in-requires c = search (rules, puts_given)

pub put_script-requires : goal.put_script-requires
put_script-requires c = search (rules, puts_given)
