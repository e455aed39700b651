-- `typed::output::iter_keys` meets its contract: the map, and then what is asked of it.
use Rattle.std.proofs.Common.{rules}
use Rattle.fitness.proofs.Maps.{fits, output_held}
use Rattle.lookup.proofs.Lists.{list_is}
use Rattle.typed.proofs.output.iter_keys.Goals as goal

pub list_in-requires : goal.list_in-requires
list_in-requires c = search (rules, fits)

pub returns : goal.returns
returns c = search (rules, output_held, list_is)
