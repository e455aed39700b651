-- `tx_bytes::put_at` meets its contract.
use Rattle.std.proofs.Common.{rules}
use Rattle.tx_bytes.proofs.Inputs.{fields_put}
use Rattle.tx_bytes.proofs.put_at.Goals as goal

pub put_bytes-requires : goal.put_bytes-requires
put_bytes-requires c = search (rules, fields_put)

pub returns-in-At : goal.returns-in-At
returns-in-At c = search (rules, fields_put)

pub returns-in_default : goal.returns-in_default
returns-in_default c = search (rules, fields_put)
