-- `all_maps_fit::found_field` meets its contract: the field stands where its key is found.
use Rattle.std.proofs.Common.{rules}
use Rattle.all_maps_fit.proofs.Fields.{field_place}
use Rattle.all_maps_fit.proofs.found_field.Goals as goal

pub returns : goal.returns
returns c = search (rules, field_place)
