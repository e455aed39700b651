-- `fitness::fit_one` meets its contract.
use Rattle.std.proofs.Common.{rules}
use Rattle.fitness.proofs.Parts.{ones}
use Rattle.fitness.proofs.fit_one.Goals as goal

pub returns-then-in_file : goal.returns-then-in_file
returns-then-in_file c = search (rules, ones)

pub returns-else-in_file : goal.returns-else-in_file
returns-else-in_file c = search (rules, ones)
