-- `setter::has_script` meets its contract.
use Rattle.std.proofs.Common.{rules}
use Rattle.setter.proofs.Rights.{scripts_there}
use Rattle.setter.proofs.has_script.Goals as goal

pub output_entry-m-requires : goal.output_entry-m-requires
output_entry-m-requires c = search (rules, scripts_there)

pub found_field-requires : goal.found_field-requires
found_field-requires c = search (rules, scripts_there)

pub returns : goal.returns
returns c = search (rules, scripts_there)
