-- `tx_size::outputs_len` meets its contract.
use Rattle.std.proofs.Common.{rules}
use Rattle.format.proofs.Answers.{handed_on}
use Rattle.all_maps_fit.proofs.Gathers.{output_maps_lem}
use Rattle.tx_size.proofs.Lengths.{capped_min}
use Rattle.tx_size.proofs.Outputs.{measures}
use Rattle.tx_size.proofs.outputs_len.Goals as goal

pub loop-i-init : goal.loop-i-init
loop-i-init c = search (rules, measures)

pub output_entry-m-requires : goal.output_entry-m-requires
output_entry-m-requires c = search (rules, output_maps_lem)

pub output_len-requires : goal.output_len-requires
output_len-requires c = search (rules, output_maps_lem)

pub returns-in_err-output_len : goal.returns-in_err-output_len
returns-in_err-output_len c = handed_on _ _ c.in_err-output_len.field-0.0 c.from_residual.ensures.1 (search (rules, measures, c.in_err-output_len.was))

pub loop-i-preserved : goal.loop-i-preserved
loop-i-preserved c = search (rules, measures, capped_min, c.in_ok-output_len.was)

pub returns : goal.returns
returns c = search (rules, measures)
