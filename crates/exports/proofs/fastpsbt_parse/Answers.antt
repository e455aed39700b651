-- `exports::fastpsbt_parse` meets its contract.
use Rattle.std.proofs.Common.{rules}
use Rattle.exports.proofs.Calls.{parses}
use Rattle.exports.proofs.fastpsbt_parse.Goals as goal

pub returns : goal.returns
returns c = search (rules, parses)
