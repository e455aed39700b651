-- `lock_lines::put_tx` meets its contract.
use Rattle.std.proofs.Common.{rules}
use Rattle.lock_lines.proofs.Answers.{txs}
use Rattle.lock_lines.proofs.put_tx.Goals as goal

pub returns-in-Err : goal.returns-in-Err
returns-in-Err c = search (rules, txs)

pub returns-in-Ok : goal.returns-in-Ok
returns-in-Ok c = search (rules, txs)
