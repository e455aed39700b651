-- `wire::read_size` meets its contract: a first byte up to fc is the size, any other begins a longer form.
use Rattle.std.proofs.Common.{rules}
use Rattle.wire.proofs.Sizes.{size_none, sizes}
use Rattle.wire.proofs.read_size.Goals as goal

pub returns-then-is_empty : goal.returns-then-is_empty
returns-then-is_empty c = size_none c.args.s.now (search rules)

pub returns-then-b-lt253 : goal.returns-then-b-lt253
returns-then-b-lt253 c = search (rules, sizes)
