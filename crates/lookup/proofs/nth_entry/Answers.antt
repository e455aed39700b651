-- `lookup::nth_entry` meets its contract.
use Rattle.std.proofs.Common.{rules}
use Rattle.lookup.proofs.Lists.{nths}
use Rattle.lookup.proofs.nth_entry.Goals as goal

pub overflow_add-m : goal.overflow_add-m
overflow_add-m c = search (rules, nths)

pub returns-then-i-m : goal.returns-then-i-m
returns-then-i-m c = search (rules, nths)

pub returns-else-i-m : goal.returns-else-i-m
returns-else-i-m c = search (rules, nths)
