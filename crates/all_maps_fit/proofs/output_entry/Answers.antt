-- `all_maps_fit::output_entry` meets its contract.
use Rattle.std.proofs.Common.{rules}
use Rattle.all_maps_fit.proofs.Numbers.{numbers}
use Rattle.all_maps_fit.proofs.output_entry.Goals as goal

pub overflow_add-psbt : goal.overflow_add-psbt
overflow_add-psbt c = search (rules, numbers)

pub overflow_add-psbt-2 : goal.overflow_add-psbt-2
overflow_add-psbt-2 c = search (rules, numbers)
