-- `text::put_byte` meets its contract.
use Rattle.std.proofs.Common.{rules}
use Rattle.text.proofs.Lays.{bytes_put}
use Rattle.text.proofs.put_byte.Goals as goal

pub returns-then-out-at : goal.returns-then-out-at
returns-then-out-at c = search (rules, bytes_put)

pub returns : goal.returns
returns c = search (rules, bytes_put)
