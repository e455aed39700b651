-- `witness_utxo::get_witness_utxo_script` meets its contract.
use Rattle.std.proofs.Common.{rules}
use Rattle.witness_utxo.proofs.Utxos.{script_of_lem}
use Rattle.witness_utxo.proofs.get_witness_utxo_script.Goals as goal

pub returns : goal.returns
returns c = search (rules, script_of_lem)
