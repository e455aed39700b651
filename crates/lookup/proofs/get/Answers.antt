-- `lookup::get` meets its contract: the map, and then what is asked of it.
use Rattle.std.proofs.Common.{rules}
use Rattle.fitness.proofs.Maps.{fits, map_held}
use Rattle.lookup.proofs.Finds.{get_is}
use Rattle.lookup.proofs.get.Goals as goal

pub asked-requires : goal.asked-requires
asked-requires c = search (rules, fits)

pub returns : goal.returns
returns c = search (rules, map_held, get_is)
