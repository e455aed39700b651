-- `Cursor::take` meets its contract: as many bytes as are left, so that the place behind them does not wrap.
use Rattle.std.proofs.Common.{rules}
use Rattle.wire.proofs.Cursors.{takes}
use Rattle.wire.proofs.Cursor.take.Goals as goal

pub returns-then-remaining-n : goal.returns-then-remaining-n
returns-then-remaining-n c = search (rules, takes)

pub overflow_add-start : goal.overflow_add-start
overflow_add-start c = search (rules, takes)

pub returns : goal.returns
returns c = search (rules, takes)
