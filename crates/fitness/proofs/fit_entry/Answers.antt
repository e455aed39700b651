-- `fitness::fit_entry` meets its contract.
use Rattle.std.proofs.Common.{rules}
use Rattle.fitness.proofs.Maps.{named_entries}
use Rattle.fitness.proofs.fit_entry.Goals as goal

pub returns-then-n-m : goal.returns-then-n-m
returns-then-n-m c = search (rules, named_entries)

pub returns-then-n-m-2 : goal.returns-then-n-m-2
returns-then-n-m-2 c = search (rules, named_entries)

pub returns-then-fit_all : goal.returns-then-fit_all
returns-then-fit_all c = search (rules, named_entries)

pub returns-else-fit_all : goal.returns-else-fit_all
returns-else-fit_all c = search (rules, named_entries)
