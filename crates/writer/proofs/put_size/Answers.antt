-- `writer::put_size` meets its contract.
use Rattle.std.proofs.Common.{rules}
use Rattle.writer.proofs.Puts.{spelt}
use Rattle.writer.proofs.put_size.Goals as goal

pub put_le-requires : goal.put_le-requires
put_le-requires c = search (rules, spelt)

pub returns-then-n-lt253 : goal.returns-then-n-lt253
returns-then-n-lt253 c = search (rules, spelt)

pub put_tagged-requires : goal.put_tagged-requires
put_tagged-requires c = search (rules, spelt)

pub returns-then-n-lt65536 : goal.returns-then-n-lt65536
returns-then-n-lt65536 c = search (rules, spelt)

pub put_tagged-requires-then-n-lt4294967296 : goal.put_tagged-requires-then-n-lt4294967296
put_tagged-requires-then-n-lt4294967296 c = search (rules, spelt)

pub returns-then-n-lt4294967296 : goal.returns-then-n-lt4294967296
returns-then-n-lt4294967296 c = search (rules, spelt)

pub put_tagged-requires-2 : goal.put_tagged-requires-2
put_tagged-requires-2 c = search (rules, spelt)

pub returns : goal.returns
returns c = search (rules, spelt)
