-- `output_script::in_table` meets its contract.
use Rattle.std.proofs.Common.{rules}
use Rattle.output_script.proofs.Scripts.{ways}
use Rattle.output_script.proofs.in_table.Goals as goal

pub overflow_mul-result : goal.overflow_mul-result
overflow_mul-result c = search (rules, ways)

pub overflow_add-result : goal.overflow_add-result
overflow_add-result c = search (rules, ways)

pub returns-then-not-state : goal.returns-then-not-state
returns-then-not-state c = search (rules, ways)

pub returns-then-not-entry_fits : goal.returns-then-not-entry_fits
returns-then-not-entry_fits c = search (rules, ways)

pub returns : goal.returns
returns c = search (rules, ways)
