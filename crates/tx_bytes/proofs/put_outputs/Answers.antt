-- `tx_bytes::put_outputs` meets its contract.
use Rattle.std.proofs.Common.{rules}
use Rattle.all_maps_fit.proofs.Gathers.{output_maps_lem}
use Rattle.tx_bytes.proofs.Outputs.{puttings}
use Rattle.tx_bytes.proofs.put_outputs.Goals as goal

pub loop-i-init : goal.loop-i-init
loop-i-init c = search (rules, puttings)

pub output_entry-m-requires : goal.output_entry-m-requires
output_entry-m-requires c = search (rules, output_maps_lem)

pub put_output-to-requires : goal.put_output-to-requires
put_output-to-requires c = search (rules, puttings, output_maps_lem)

pub loop-i-preserved : goal.loop-i-preserved
loop-i-preserved c = search (rules, puttings)

pub returns : goal.returns
returns c = search (rules, puttings)
