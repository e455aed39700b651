-- `tx_bytes::put_script` meets its contract.
use Rattle.std.proofs.Common.{rules}
use Rattle.tx_bytes.proofs.Outputs.{script_puts}
use Rattle.tx_bytes.proofs.put_script.Goals as goal

pub put_bytes-requires : goal.put_bytes-requires
put_bytes-requires c = search (rules, script_puts)

pub put_bytes-requires-in-len1-up : goal.put_bytes-requires-in-len1-up
put_bytes-requires-in-len1-up c = search (rules, script_puts)

pub returns-in-Missing : goal.returns-in-Missing
returns-in-Missing c = search (rules, script_puts)

pub returns-in-InFile : goal.returns-in-InFile
returns-in-InFile c = search (rules, script_puts)

pub returns-in_default : goal.returns-in_default
returns-in_default c = search (rules, script_puts)

pub returns-in-len1-up : goal.returns-in-len1-up
returns-in-len1-up c = search (rules, script_puts)
