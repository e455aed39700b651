-- `wire::count_of` meets its contract: each case of what was read leads to the definition's.
use Rattle.std.proofs.Common.{rules}
use Rattle.wire.proofs.Sizes.{counts_by}
use Rattle.wire.proofs.count_of.Goals as goal

pub returns-then-len-le1 : goal.returns-then-len-le1
returns-then-len-le1 c = search (rules, counts_by)

pub returns-else-len-le1 : goal.returns-else-len-le1
returns-else-len-le1 c = search (rules, counts_by)

pub returns-then-len-used : goal.returns-then-len-used
returns-then-len-used c = search (rules, counts_by)

pub returns-else-len-used : goal.returns-else-len-used
returns-else-len-used c = search (rules, counts_by)
