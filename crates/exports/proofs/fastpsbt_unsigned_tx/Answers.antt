-- `exports::fastpsbt_unsigned_tx` meets its contract.
use Rattle.std.proofs.Common.{rules}
use Rattle.exports.proofs.Calls.{outs}
use Rattle.exports.proofs.fastpsbt_unsigned_tx.Goals as goal

pub returns : goal.returns
returns c = search (rules, outs)
