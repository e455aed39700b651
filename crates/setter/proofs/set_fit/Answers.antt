-- `setter::set_fit` meets its contract.
use Rattle.std.proofs.Common.{rules}
use Rattle.setter.proofs.Sets.{sets_fit}
use Rattle.setter.proofs.set_fit.Goals as goal

pub fill-requires : goal.fill-requires
fill-requires g c = search (rules, sets_fit)

pub returns-then-is_right : goal.returns-then-is_right
returns-then-is_right g c = search (rules, sets_fit)

pub returns : goal.returns
returns g c = search (rules, sets_fit)
