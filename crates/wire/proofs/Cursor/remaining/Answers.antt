-- `Cursor::remaining` meets its contract: what is left is a difference, past the end 0.
use Rattle.std.proofs.Common.{◌∙◌, sym}
use Rattle.wire.proofs.Bounds.{remaining_is}
use Rattle.wire.proofs.Cursor.remaining.Goals as goal

pub returns : goal.returns
returns c = c.saturating_sub.ensures ∙ sym (remaining_is c.args.buf.now c.args.self.pos)
