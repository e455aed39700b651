-- `wire::read_long` meets its contract: the first byte says how many follow.
use Rattle.std.proofs.Common.{rules}
use Rattle.wire.proofs.Sizes.{longs}
use Rattle.wire.proofs.read_long.Goals as goal

pub overflow_add-w : goal.overflow_add-w
overflow_add-w c = search (rules, longs)

pub lead-requires : goal.lead-requires
lead-requires c = search (rules, longs)

pub returns : goal.returns
returns c = search (rules, longs)
