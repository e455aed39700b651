-- `tx_size::output_len` meets its contract.
use Rattle.std.proofs.Common.{rules}
use Rattle.tx_size.proofs.Outputs.{lens}
use Rattle.tx_size.proofs.output_len.Goals as goal

pub returns-then-not-is_there : goal.returns-then-not-is_there
returns-then-not-is_there c = search (rules, lens)

pub returns-then-not-has_script : goal.returns-then-not-has_script
returns-then-not-has_script c = search (rules, lens)

pub out_len-requires : goal.out_len-requires
out_len-requires c = search (rules, lens)

pub returns : goal.returns
returns c = search (rules, lens)
