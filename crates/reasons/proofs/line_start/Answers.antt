-- `reasons::line_start` meets its contract: where no line is left to pass, the line begins.
use Rattle.std.proofs.Common.{rules}
use Rattle.reasons.proofs.Rows.{passed_all, starts}
use Rattle.reasons.proofs.line_start.Goals as goal
use Rattle.reasons.proofs.line_start.Goals.{then-byte-eq10, else-byte-eq10}

pub returns-then-left-eq0 : goal.returns-then-left-eq0
returns-then-left-eq0 c = search (rules, starts)

pub loop-i-preserved : goal.loop-i-preserved
loop-i-preserved c =
    elim c.if-byte-eq10.branch [
      | then-byte-eq10 w ↦ rw w.left-is
          (search (rules, starts))
      | else-byte-eq10 w ↦ rw w.left-is (search (rules, starts))
    ]

pub returns : goal.returns
returns c = passed_all _ _ _ _ c.loop-i.invariant c.loop-i-test.false
