-- `tx_bytes::put_output` meets its contract.
use Rattle.std.proofs.Common.{rules}
use Rattle.tx_bytes.proofs.Outputs.{output_puts}
use Rattle.tx_bytes.proofs.put_output.Goals as goal

pub overflow_add-to_script : goal.overflow_add-to_script
overflow_add-to_script c = search (rules, output_puts)

pub overflow_add-end : goal.overflow_add-end
overflow_add-end c = search (rules, output_puts)

pub put_at-requires : goal.put_at-requires
put_at-requires c = search (rules, output_puts)

pub put_size-requires : goal.put_size-requires
put_size-requires c = search (rules, output_puts)

pub put_script-requires : goal.put_script-requires
put_script-requires c = search (rules, output_puts)

pub returns : goal.returns
returns c = search (rules, output_puts)
