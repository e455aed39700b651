-- `tx_bytes::put_sequence` meets its contract.
use Rattle.std.proofs.Common.{rules}
use Rattle.tx_bytes.proofs.Inputs.{sequences_put}
use Rattle.tx_bytes.proofs.put_sequence.Goals as goal

pub returns-in-Missing : goal.returns-in-Missing
returns-in-Missing c = search (rules, sequences_put)

pub returns-in-Misfit : goal.returns-in-Misfit
returns-in-Misfit c = search (rules, sequences_put)

pub returns-in-At : goal.returns-in-At
returns-in-At c = search (rules, sequences_put)
