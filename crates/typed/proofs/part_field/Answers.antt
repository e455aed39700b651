-- `typed::part_field` meets its contract.
use Rattle.std.proofs.Common.{rules}
use Rattle.typed.proofs.Fields.{fields}
use Rattle.typed.proofs.part_field.Goals as goal

pub returns : goal.returns
returns c = search (rules, fields)
