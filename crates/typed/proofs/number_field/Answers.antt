-- `typed::number_field` meets its contract.
use Rattle.std.proofs.Common.{rules}
use Rattle.typed.proofs.Fields.{fields}
use Rattle.typed.proofs.number_field.Goals as goal

pub number_at-requires : goal.number_at-requires
number_at-requires c = search (rules, fields)

pub returns : goal.returns
returns c = search (rules, fields)
