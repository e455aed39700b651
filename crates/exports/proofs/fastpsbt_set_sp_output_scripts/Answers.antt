-- `exports::fastpsbt_set_sp_output_scripts` meets its contract.
use Rattle.std.proofs.Common.{rules}
use Rattle.exports.proofs.Calls.{outs}
use Rattle.exports.proofs.fastpsbt_set_sp_output_scripts.Goals as goal

pub returns : goal.returns
returns c = search (rules, outs)
