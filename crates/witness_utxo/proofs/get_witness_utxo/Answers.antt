-- `witness_utxo::get_witness_utxo` meets its contract: the lookup first.
use Rattle.std.proofs.Common.{rules}
use Rattle.format.proofs.Answers.{hands_on}
use Rattle.witness_utxo.proofs.Utxos.{looked_up}
use Rattle.witness_utxo.proofs.get_witness_utxo.Goals as goal

pub returns-in_err-found : goal.returns-in_err-found
returns-in_err-found c = rw (hands_on _ c.in_err-found.field-0.0 c.from_residual.ensures.1) (search (rules, looked_up, c.in_err-found.was))

pub returns : goal.returns
returns c = search (rules, looked_up, c.in_ok-found.was)
