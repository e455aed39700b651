-- `lookup::nth` meets its contract: the map, and then what is asked of it.
use Rattle.std.proofs.Common.{rules}
use Rattle.fitness.proofs.Maps.{fits, map_held}
use Rattle.lookup.proofs.Lists.{nth_is}
use Rattle.lookup.proofs.nth.Goals as goal

pub nth_in-requires : goal.nth_in-requires
nth_in-requires c = search (rules, fits)

pub returns : goal.returns
returns c = search (rules, map_held, nth_is)
