-- `tx_size::fixed_len` meets its contract.
use Rattle.std.proofs.Common.{rules}
use Rattle.tx_size.proofs.Lengths.{fixes}
use Rattle.tx_size.proofs.fixed_len.Goals as goal

pub overflow_add-sizes : goal.overflow_add-sizes
overflow_add-sizes c = search (rules, fixes)

pub overflow_add-sizes-2 : goal.overflow_add-sizes-2
overflow_add-sizes-2 c = search (rules, fixes)

pub returns : goal.returns
returns c = search (rules, fixes)
