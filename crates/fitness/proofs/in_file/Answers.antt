-- `fitness::in_file` meets its contract.
use Rattle.std.proofs.Common.{rules}
use Rattle.fitness.proofs.Parts.{inside}
use Rattle.fitness.proofs.in_file.Goals as goal

pub returns-then-lies-2 : goal.returns-then-lies-2
returns-then-lies-2 c = search (rules, inside)

pub returns-else-lies-2 : goal.returns-else-lies-2
returns-else-lies-2 c = search (rules, inside)

pub returns-else-lies : goal.returns-else-lies
returns-else-lies c = search (rules, inside)
