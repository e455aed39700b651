-- `Cursor::read_compact_size` meets its contract: what is read of the bytes left at the place is read there.
use Rattle.std.proofs.Common.{rules}
use Rattle.format.proofs.Answers.{handed_on}
use Rattle.wire.proofs.Cursors.{ats}
use Rattle.wire.proofs.Cursor.read_compact_size.Goals as goal

pub returns-then-buf-pos : goal.returns-then-buf-pos
returns-then-buf-pos c = search (rules, ats)

pub returns-in_err-size : goal.returns-in_err-size
returns-in_err-size c = handed_on _ _ c.in_err-size.field-0.0 c.from_residual.ensures.1 (search (rules, ats, c.in_err-size.was))

pub overflow_add-pos : goal.overflow_add-pos
overflow_add-pos c = search (rules, ats, c.in_ok-size.was)

pub returns : goal.returns
returns c = search (rules, ats, c.in_ok-size.was)
