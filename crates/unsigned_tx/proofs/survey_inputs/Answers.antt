-- `unsigned_tx::survey_inputs` meets its contract.
use Rattle.std.proofs.Common.{rules}
use Rattle.all_maps_fit.proofs.Gathers.{input_maps}
use Rattle.unsigned_tx.proofs.Surveys.{surveys}
use Rattle.unsigned_tx.proofs.survey_inputs.Goals as goal

pub loop-i-init : goal.loop-i-init
loop-i-init c = search (rules, surveys)

pub input_entry-m-requires : goal.input_entry-m-requires
input_entry-m-requires c = search (rules, input_maps)

pub input_at-at-requires : goal.input_at-at-requires
input_at-at-requires c = search (rules, input_maps)

pub loop-i-preserved : goal.loop-i-preserved
loop-i-preserved c = search (rules, surveys)

pub returns : goal.returns
returns c = search (rules, surveys)
