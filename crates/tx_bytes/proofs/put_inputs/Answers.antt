-- `tx_bytes::put_inputs` meets its contract.
use Rattle.std.proofs.Common.{rules}
use Rattle.all_maps_fit.proofs.Gathers.{input_maps}
use Rattle.tx_bytes.proofs.Inputs.{puttings}
use Rattle.tx_bytes.proofs.put_inputs.Goals as goal

pub loop-i-init : goal.loop-i-init
loop-i-init c = search (rules, puttings)

pub input_entry-m-requires : goal.input_entry-m-requires
input_entry-m-requires c = search (rules, input_maps)

pub put_input-requires : goal.put_input-requires
put_input-requires c = search (rules, puttings, input_maps)

pub loop-i-preserved : goal.loop-i-preserved
loop-i-preserved c = search (rules, puttings)

pub returns : goal.returns
returns c = search (rules, puttings)
