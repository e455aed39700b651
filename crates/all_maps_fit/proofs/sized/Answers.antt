-- `all_maps_fit::sized` meets its contract.
use Rattle.std.proofs.Common.{rules}
use Rattle.all_maps_fit.proofs.Fields.{sizes}
use Rattle.all_maps_fit.proofs.sized.Goals as goal

pub returns-in-None : goal.returns-in-None
returns-in-None c = search (rules, sizes)

pub returns-in-Some : goal.returns-in-Some
returns-in-Some c = search (rules, sizes)

pub returns-in-Some-2 : goal.returns-in-Some-2
returns-in-Some-2 c = search (rules, sizes)
