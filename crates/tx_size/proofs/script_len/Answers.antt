-- `tx_size::script_len` meets its contract.
use Rattle.std.proofs.Common.{rules}
use Rattle.tx_size.proofs.Scripts.{script_lens}
use Rattle.tx_size.proofs.script_len.Goals as goal

pub returns-in-Missing : goal.returns-in-Missing
returns-in-Missing c = search (rules, script_lens)

pub returns-in-InFile : goal.returns-in-InFile
returns-in-InFile c = search (rules, script_lens)

pub returns-in-InTable : goal.returns-in-InTable
returns-in-InTable c = search (rules, script_lens)
