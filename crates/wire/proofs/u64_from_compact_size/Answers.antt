-- `wire::u64_from_compact_size` meets its contract: a count is judged by its whole length.
use Rattle.std.proofs.Common.{rules}
use Rattle.format.specs.Compact.{count}
use Rattle.wire.proofs.u64_from_compact_size.Goals as goal

pub returns : goal.returns
unfolding count
returns c = search rules
