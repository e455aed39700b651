-- `tx_size::out_len` meets its contract.
use Rattle.std.proofs.Common.{rules}
use Rattle.tx_size.proofs.Lengths.{out_lens}
use Rattle.tx_size.proofs.out_len.Goals as goal

pub overflow_add-result : goal.overflow_add-result
overflow_add-result c = search (rules, out_lens)

pub overflow_add-result-2 : goal.overflow_add-result-2
overflow_add-result-2 c = search (rules, out_lens)

pub returns : goal.returns
returns c = search (rules, out_lens)
