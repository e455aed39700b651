-- `witness_utxo::utxo_by` meets its contract.
use Rattle.std.proofs.Common.{rules}
use Rattle.witness_utxo.proofs.Utxos.{utxos_by}
use Rattle.witness_utxo.proofs.utxo_by.Goals as goal

pub returns-in_default : goal.returns-in_default
returns-in_default c = search (rules, utxos_by)

pub utxo_at-requires : goal.utxo_at-requires
utxo_at-requires c = search (rules, utxos_by)

pub returns : goal.returns
returns c = search (rules, utxos_by)
