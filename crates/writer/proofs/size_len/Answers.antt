-- `writer::size_len` meets its contract.
use Rattle.std.proofs.Common.{rules}
use Rattle.writer.proofs.Puts.{sizes}
use Rattle.writer.proofs.size_len.Goals as goal

pub returns-then-n-lt253 : goal.returns-then-n-lt253
returns-then-n-lt253 c = search (rules, sizes)

pub returns-then-n-lt65536 : goal.returns-then-n-lt65536
returns-then-n-lt65536 c = search (rules, sizes)

pub returns-then-n-lt4294967296 : goal.returns-then-n-lt4294967296
returns-then-n-lt4294967296 c = search (rules, sizes)

pub returns : goal.returns
returns c = search (rules, sizes)
