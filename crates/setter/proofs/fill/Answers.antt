-- `setter::fill` meets its contract.
use Rattle.std.proofs.Common.{rules}
use Rattle.setter.proofs.Fills.{fills}
use Rattle.setter.proofs.fill.Goals as goal

pub returns-then-outputs-table : goal.returns-then-outputs-table
returns-then-outputs-table g c = search (rules, fills)

pub returns : goal.returns
returns g c = search (rules, fills)
