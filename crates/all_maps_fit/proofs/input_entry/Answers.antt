-- `all_maps_fit::input_entry` meets its contract.
use Rattle.std.proofs.Common.{rules}
use Rattle.all_maps_fit.proofs.Numbers.{numbers}
use Rattle.all_maps_fit.proofs.input_entry.Goals as goal

pub overflow_add-i : goal.overflow_add-i
overflow_add-i c = search (rules, numbers)
