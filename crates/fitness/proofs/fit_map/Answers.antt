-- `fitness::fit_map` meets its contract.
use Rattle.std.proofs.Common.{rules}
use Rattle.fitness.proofs.Maps.{map_numbers}
use Rattle.fitness.proofs.fit_map.Goals as goal

pub returns-then-reported : goal.returns-then-reported
returns-then-reported c = search (rules, map_numbers)

pub returns-else-reported : goal.returns-else-reported
returns-else-reported c = search (rules, map_numbers)

pub returns-else-m-map_count : goal.returns-else-m-map_count
returns-else-m-map_count c = search (rules, map_numbers)
