-- `typed::input::required_time_locktime` meets its contract: the map first, and then what is asked of it.
use Rattle.std.proofs.Common.{rules}
use Rattle.format.specs.Fields.{required_time_locktime}
use Rattle.format.proofs.Answers.{hands_on}
use Rattle.fitness.proofs.Maps.{fits, input_held}
use Rattle.typed.proofs.Fields.{asked_of}
use Rattle.typed.proofs.input.required_time_locktime.Goals as goal

pub returns-in_err-m : goal.returns-in_err-m
unfolding required_time_locktime
returns-in_err-m c = rw (hands_on _ c.in_err-m.field-0.0 c.from_residual.ensures.1) (search (rules, input_held, asked_of, c.in_err-m.was))

pub number_field-requires-clause-within : goal.number_field-requires-clause-within
number_field-requires-clause-within c = search (rules, fits, c.in_ok-m.was)

pub returns : goal.returns
unfolding required_time_locktime
returns c = search (rules, input_held, asked_of, c.in_ok-m.was)
