-- `typed::output::script` meets its contract: the map first, and then what is asked of it.
use Rattle.std.proofs.Common.{rules}
use Rattle.format.specs.Fields.{script}
use Rattle.format.proofs.Answers.{hands_on}
use Rattle.fitness.proofs.Maps.{fits, output_held}
use Rattle.lookup.specs.Finds.{length_of}
use Rattle.typed.proofs.Fields.{asked_of}
use Rattle.typed.proofs.output.script.Goals as goal

pub returns-in_err-m : goal.returns-in_err-m
unfolding script length_of
returns-in_err-m c = rw (hands_on _ c.in_err-m.field-0.0 c.from_residual.ensures.1) (search (rules, output_held, asked_of, c.in_err-m.was))

pub part_field-requires : goal.part_field-requires
part_field-requires c = search (rules, fits, c.in_ok-m.was)

pub returns : goal.returns
unfolding script length_of
returns c = search (rules, output_held, asked_of, c.in_ok-m.was)
