-- `tx_size::tx_len` meets its contract.
use Rattle.std.proofs.Common.{rules}
use Rattle.tx_size.proofs.Outputs.{tx_measured}
use Rattle.tx_size.proofs.tx_len.Goals as goal

pub returns : goal.returns
returns c = search (rules, tx_measured)
