-- `fitness::fit_output` meets its contract.
use Rattle.std.proofs.Common.{rules}
use Rattle.fitness.proofs.Maps.{by_numbers}
use Rattle.fitness.proofs.fit_output.Goals as goal

pub returns-then-psbt-i : goal.returns-then-psbt-i
returns-then-psbt-i c = search (rules, by_numbers)

pub returns-then-psbt-i-2 : goal.returns-then-psbt-i-2
returns-then-psbt-i-2 c = search (rules, by_numbers)

pub returns : goal.returns
returns c = search (rules, by_numbers)
