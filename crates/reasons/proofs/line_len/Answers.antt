-- `reasons::line_len` meets its contract: the first line ends where the first newline stands, or with the text.
use Rattle.std.proofs.Common.{rules}
use Rattle.reasons.proofs.Rows.{ends_text, ends}
use Rattle.reasons.proofs.line_len.Goals as goal

pub returns-then-byte-eq10 : goal.returns-then-byte-eq10
returns-then-byte-eq10 c = search (rules, ends)

pub loop-i-preserved : goal.loop-i-preserved
loop-i-preserved c = search (rules, ends)

pub returns : goal.returns
returns c = ends_text _ _ c.loop-i.invariant c.loop-i-test.false
