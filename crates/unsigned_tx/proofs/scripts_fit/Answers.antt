-- `unsigned_tx::scripts_fit` meets its contract.
use Rattle.std.proofs.Common.{rules}
use Rattle.all_maps_fit.proofs.Gathers.{output_maps_lem}
use Rattle.unsigned_tx.proofs.Judges.{judges}
use Rattle.unsigned_tx.proofs.scripts_fit.Goals as goal

pub loop-i-init : goal.loop-i-init
loop-i-init c = search (rules, judges)

pub output_entry-m-requires : goal.output_entry-m-requires
output_entry-m-requires c = search (rules, output_maps_lem)

pub found_field-found-requires : goal.found_field-found-requires
found_field-found-requires c = search (rules, judges)

pub returns-then-not-entry_fits : goal.returns-then-not-entry_fits
returns-then-not-entry_fits c = search (rules, judges)

pub loop-i-preserved : goal.loop-i-preserved
loop-i-preserved c = search (rules, judges)

pub returns : goal.returns
returns c = search (rules, judges)
