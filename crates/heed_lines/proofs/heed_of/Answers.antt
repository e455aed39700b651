-- `heed_lines::heed_of` meets its contract.
use Rattle.std.proofs.Common.{rules}
use Rattle.heed_lines.proofs.Laws.{heeding}
use Rattle.heed_lines.proofs.heed_of.Goals as goal

pub loop-i-init : goal.loop-i-init
loop-i-init c = search (rules, heeding)

pub returns-then-not-is_final : goal.returns-then-not-is_final
returns-then-not-is_final c = search (rules, heeding)

pub loop-i-preserved : goal.loop-i-preserved
loop-i-preserved c = search (rules, heeding)

pub returns : goal.returns
returns c = search (rules, heeding)
