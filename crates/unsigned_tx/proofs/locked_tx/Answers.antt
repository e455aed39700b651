-- `unsigned_tx::locked_tx` meets its contract.
use Rattle.std.proofs.Common.{rules}
use Rattle.format.proofs.Answers.{hands_on}
use Rattle.unsigned_tx.proofs.Finals.{lockeds}
use Rattle.unsigned_tx.proofs.locked_tx.Goals as goal

pub returns-in_err-len : goal.returns-in_err-len
returns-in_err-len c = rw (hands_on _ c.in_err-len.field-0.0 c.from_residual.ensures.1) (search (rules, lockeds, c.in_err-len.was))

pub returns-then-len-out : goal.returns-then-len-out
returns-then-len-out c = search (rules, lockeds, c.in_ok-len.was)

pub put_tx-requires : goal.put_tx-requires
put_tx-requires c = search (rules, lockeds, c.in_ok-len.was)

pub returns : goal.returns
returns c = search (rules, lockeds, c.in_ok-len.was)
