-- `lock::lock_decided` meets its contract: a map that is unfit refuses first, and then what all inputs ask for decides.
use Rattle.std.proofs.Common.{rules}
use Rattle.format.proofs.Answers.{hands_on}
use Rattle.lock.proofs.Locks.{calls}
use Rattle.lock.proofs.lock_decided.Goals as goal

pub returns-in_err-all_fit : goal.returns-in_err-all_fit
returns-in_err-all_fit c = rw (hands_on _ c.in_err-all_fit.field-0.0 c.from_residual.ensures.1) (search (rules, calls, c.in_err-all_fit.was))

pub all_asks-asks-requires : goal.all_asks-asks-requires
all_asks-asks-requires c = search (rules, calls, c.in_ok-all_fit.was)

pub returns : goal.returns
returns c = search (rules, calls, c.in_ok-all_fit.was)
