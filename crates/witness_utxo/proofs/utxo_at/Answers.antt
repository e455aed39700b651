-- `witness_utxo::utxo_at` meets its contract.
use Rattle.std.proofs.Common.{rules}
use Rattle.witness_utxo.proofs.Utxos.{utxos}
use Rattle.witness_utxo.proofs.utxo_at.Goals.{then-n-gt-LONGEST-via-then-n-gt-LONGEST, then-n-gt-LONGEST-via-else-n-gt-LONGEST+then-v-n}
use Rattle.witness_utxo.proofs.utxo_at.Goals as goal

pub returns-then-v-lt-SCRIPT : goal.returns-then-v-lt-SCRIPT
returns-then-v-lt-SCRIPT c = search (rules, utxos)

pub returns-then-n-gt-LONGEST : goal.returns-then-n-gt-LONGEST
returns-then-n-gt-LONGEST c =
    elim c.then-n-gt-LONGEST.branch [
      | then-n-gt-LONGEST-via-then-n-gt-LONGEST w ↦ search (rules, utxos, w.if-n-gt-LONGEST.true)
      | then-n-gt-LONGEST-via-else-n-gt-LONGEST+then-v-n w ↦ search (rules, utxos, w.if-n-gt-LONGEST.false, w.if-v-n.true)
    ]

pub returns : goal.returns
returns c = search (rules, utxos)
