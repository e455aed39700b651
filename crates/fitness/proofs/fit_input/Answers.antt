-- `fitness::fit_input` meets its contract.
use Rattle.std.proofs.Common.{rules}
use Rattle.fitness.proofs.Maps.{by_numbers}
use Rattle.fitness.proofs.fit_input.Goals as goal

pub returns-then-i-psbt : goal.returns-then-i-psbt
returns-then-i-psbt c = search (rules, by_numbers)

pub returns-else-i-psbt : goal.returns-else-i-psbt
returns-else-i-psbt c = search (rules, by_numbers)
