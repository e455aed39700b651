-- `unsigned_tx::unsigned_tx` meets its contract.
use Rattle.std.proofs.Common.{rules}
use Rattle.format.proofs.Answers.{hands_on}
use Rattle.unsigned_tx.proofs.Finals.{public}
use Rattle.unsigned_tx.proofs.unsigned_tx.Goals as goal

pub returns-in_err-all_fit : goal.returns-in_err-all_fit
returns-in_err-all_fit c = rw (hands_on _ c.in_err-all_fit.field-0.0 c.from_residual.ensures.1) (search (rules, public, c.in_err-all_fit.was))

pub fit_tx-requires : goal.fit_tx-requires
fit_tx-requires c = search (rules, public, c.in_ok-all_fit.was)

pub returns : goal.returns
returns c = search (rules, public)
