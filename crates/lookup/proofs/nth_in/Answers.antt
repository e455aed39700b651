-- `lookup::nth_in` meets its contract: the map's refusal, and then the pair in the map.
use Rattle.std.proofs.Common.{rules}
use Rattle.format.proofs.Answers.{hands_on}
use Rattle.fitness.proofs.Maps.{fits}
use Rattle.lookup.proofs.Lists.{nths_of}
use Rattle.lookup.proofs.nth_in.Goals as goal

pub returns-in_err-named : goal.returns-in_err-named
returns-in_err-named c = rw (hands_on _ c.in_err-named.field-0.0 c.from_residual.ensures.1) (search (rules, nths_of, c.in_err-named.was))

pub nth_entry-requires : goal.nth_entry-requires
nth_entry-requires c = search (rules, fits, c.in_ok-named.was)

pub returns : goal.returns
returns c = search (rules, nths_of, c.in_ok-named.was)
