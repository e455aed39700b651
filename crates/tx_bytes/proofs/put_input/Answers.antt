-- `tx_bytes::put_input` meets its contract.
use Rattle.std.proofs.Common.{rules}
use Rattle.tx_bytes.proofs.Inputs.{input_fields}
use Rattle.tx_bytes.proofs.put_input.Goals as goal

pub returns : goal.returns
returns c = search (rules, input_fields)
