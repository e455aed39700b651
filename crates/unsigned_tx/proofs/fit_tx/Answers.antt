-- `unsigned_tx::fit_tx` meets its contract.
use Rattle.std.proofs.Common.{rules}
use Rattle.std.proofs.lemmas.Bool.{not-true}
use Rattle.format.proofs.Answers.{hands_on}
use Rattle.unsigned_tx.proofs.Finals.{calls}
use Rattle.unsigned_tx.proofs.fit_tx.Goals as goal

pub returns-then-not-table_fits : goal.returns-then-not-table_fits
returns-then-not-table_fits c = search (rules, calls)

pub returns-in_err-lock : goal.returns-in_err-lock
returns-in_err-lock c = rw (hands_on _ c.in_err-lock.field-0.0 c.from_residual.ensures.1) (search (rules, calls, c.in_err-lock.was))

pub returns-then-not-seen : goal.returns-then-not-seen
returns-then-not-seen c = search (rules, calls, not-true, c.in_ok-lock.was)

pub locked_tx-requires : goal.locked_tx-requires
locked_tx-requires c = search (rules, calls)

pub returns : goal.returns
returns c = search (rules, calls, c.in_ok-lock.was)
