-- `entries::pair_entry` meets its contract.
use Rattle.std.proofs.Common.{rules}
use Rattle.entries.proofs.Tables.{reads}
use Rattle.entries.proofs.pair_entry.Goals as goal

pub overflow_mul-i : goal.overflow_mul-i
overflow_mul-i c = search (rules, reads)

pub pair_from-requires : goal.pair_from-requires
pair_from-requires c = search (rules, reads)

pub returns : goal.returns
returns c = search (rules, reads)
