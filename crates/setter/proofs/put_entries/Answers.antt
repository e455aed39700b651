-- `setter::put_entries` meets its contract.
use Rattle.std.proofs.Common.{rules}
use Rattle.setter.proofs.Fills.{fillings}
use Rattle.setter.proofs.put_entries.Goals as goal

pub loop-i-preserved : goal.loop-i-preserved
loop-i-preserved g c = search (rules, fillings)

pub returns : goal.returns
returns g c = search (rules, fillings)
