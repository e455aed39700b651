-- `all_maps_fit::noted` meets its contract: a field after a pair, each way.
use Rattle.std.proofs.Common.{rules}
use Rattle.all_maps_fit.proofs.Inputs.{noteds}
use Rattle.all_maps_fit.proofs.noted.Goals as goal

pub returns-then-not-own : goal.returns-then-not-own
returns-then-not-own c = search (rules, noteds)

pub returns-else-not-own : goal.returns-else-not-own
returns-else-not-own c = search (rules, noteds)

pub returns-in-Misfit : goal.returns-in-Misfit
returns-in-Misfit c = search (rules, noteds)

pub returns-in-At : goal.returns-in-At
returns-in-At c = search (rules, noteds)
