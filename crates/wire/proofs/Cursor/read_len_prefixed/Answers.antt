-- `Cursor::read_len_prefixed` meets its contract: the bytes are taken where the length ends.
use Rattle.std.proofs.Common.{rules}
use Rattle.format.proofs.Answers.{handed_on}
use Rattle.wire.proofs.Cursors.{prefixes}
use Rattle.wire.proofs.Cursor.read_len_prefixed.Goals as goal

pub returns-in_err-value : goal.returns-in_err-value
returns-in_err-value c = handed_on _ _ c.in_err-value.field-0.0 c.from_residual.ensures.1 (search (rules, prefixes, c.in_err-value.was))

pub returns-in_err-start : goal.returns-in_err-start
returns-in_err-start c =
    handed_on _ _ c.in_err-start.field-0.0 c.from_residual-in_err-start.ensures.1 (search (rules, prefixes, c.in_ok-value.was, c.in_err-start.was))

pub returns : goal.returns
returns c = search (rules, prefixes, c.in_ok-value.was, c.in_ok-start.was)
