-- `fields::has_type` meets its contract: each row has its law.
use Rattle.std.proofs.Common.{rules}
use Rattle.fields.proofs.Types.{types}
use Rattle.fields.proofs.has_type.Goals as goal

pub returns-then-row-key_type : goal.returns-then-row-key_type
returns-then-row-key_type c = search (rules, types)

pub loop-row-preserved : goal.loop-row-preserved
loop-row-preserved c = search (rules, types)

pub returns : goal.returns
returns c = search (rules, types)
