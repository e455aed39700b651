-- `witness_utxo::utxo_part` meets its contract.
use Rattle.std.proofs.Common.{rules}
use Rattle.witness_utxo.proofs.Utxos.{scripts}
use Rattle.witness_utxo.proofs.utxo_part.Goals.{in_default-via-in-Ok+in_default, in_default-via-in_default}
use Rattle.witness_utxo.proofs.utxo_part.Goals as goal

pub returns-in_default : goal.returns-in_default
returns-in_default c =
    elim c.in_default.branch [
      | in_default-via-in-Ok+in_default w ↦ search (rules, scripts, w.in_default.is)
      | in_default-via-in_default w ↦ search (rules, scripts, w.in_default.is)
    ]

pub returns : goal.returns
returns c = search (rules, scripts, c.in-Ok-Some.is, c.in-Ok-Some.field-0-is)
