-- `tx_bytes::put_tx` meets its contract.
use Rattle.std.proofs.Common.{rules}
use Rattle.tx_bytes.proofs.Wholes.{txs}
use Rattle.tx_bytes.proofs.put_tx.Goals as goal

pub put_front-at-requires : goal.put_front-at-requires
put_front-at-requires c = search (rules, txs)

pub put_rest-requires : goal.put_rest-requires
put_rest-requires c = search (rules, txs)

pub returns : goal.returns
returns c = search (rules, txs)
