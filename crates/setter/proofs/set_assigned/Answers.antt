-- `setter::set_assigned` meets its contract.
use Rattle.std.proofs.Common.{rules}
use Rattle.format.proofs.Answers.{hands_on}
use Rattle.setter.proofs.Sets.{sets_told}
use Rattle.setter.proofs.set_assigned.Goals as goal

pub returns-in_err-all_fit : goal.returns-in_err-all_fit
returns-in_err-all_fit g c = rw (hands_on _ c.in_err-all_fit.field-0.0 c.from_residual.ensures.1) (search (rules, sets_told, c.in_err-all_fit.was))

pub set_fit-requires : goal.set_fit-requires
set_fit-requires g c = search (rules, sets_told, c.in_ok-all_fit.was)

pub returns : goal.returns
returns g c = search (rules, sets_told, c.in_ok-all_fit.was)
