-- `lookup::asked` meets its contract: the map's refusal, and then what is asked in the map.
use Rattle.std.proofs.Common.{rules}
use Rattle.format.proofs.Answers.{hands_on}
use Rattle.fitness.proofs.Maps.{fits}
use Rattle.lookup.proofs.Finds.{asked_of}
use Rattle.lookup.proofs.asked.Goals as goal

pub returns-in_err-m : goal.returns-in_err-m
returns-in_err-m c = rw (hands_on _ c.in_err-m.field-0.0 c.from_residual.ensures.1) (search (rules, asked_of, c.in_err-m.was))

pub asked_in-requires : goal.asked_in-requires
asked_in-requires c = search (rules, fits, c.in_ok-m.was)

pub returns : goal.returns
returns c = search (rules, asked_of, c.in_ok-m.was)
