-- `all_maps_fit::sized_field` meets its contract.
use Rattle.std.proofs.Common.{rules}
use Rattle.all_maps_fit.proofs.Fields.{sized_fields}
use Rattle.all_maps_fit.proofs.sized_field.Goals as goal

pub returns : goal.returns
returns c = search (rules, sized_fields)
