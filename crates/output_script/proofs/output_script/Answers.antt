-- `output_script::output_script` meets its contract: the output's map first, and then its script.
use Rattle.std.proofs.Common.{rules}
use Rattle.format.proofs.Answers.{hands_on}
use Rattle.fitness.proofs.Maps.{fits}
use Rattle.output_script.proofs.Scripts.{public}
use Rattle.output_script.proofs.output_script.Goals as goal

pub returns-in_err-m : goal.returns-in_err-m
returns-in_err-m c = rw (hands_on _ c.in_err-m.field-0.0 c.from_residual.ensures.1) (search (rules, public, c.in_err-m.was))

pub script_in-requires : goal.script_in-requires
script_in-requires c = search (rules, fits, c.in_ok-m.was)

pub returns : goal.returns
returns c = search (rules, public, c.in_ok-m.was)
