-- `lookup::list_in` meets its contract: the map's refusal, and then the listing in the map.
use Rattle.std.proofs.Common.{rules}
use Rattle.format.proofs.Answers.{hands_on}
use Rattle.fitness.proofs.Maps.{fits}
use Rattle.lookup.proofs.Lists.{listings}
use Rattle.lookup.proofs.list_in.Goals as goal

pub returns-in_err-entry : goal.returns-in_err-entry
returns-in_err-entry c = rw (hands_on _ c.in_err-entry.field-0.0 c.from_residual.ensures.1) (search (rules, listings, c.in_err-entry.was))

pub list_entries-requires : goal.list_entries-requires
list_entries-requires c = search (rules, fits, c.in_ok-entry.was)

pub returns : goal.returns
returns c = search (rules, listings, c.in_ok-entry.was)
