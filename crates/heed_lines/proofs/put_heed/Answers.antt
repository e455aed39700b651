-- `heed_lines::put_heed` meets its contract.
use Rattle.std.proofs.Common.{rules}
use Rattle.heed_lines.proofs.Laws.{heed_lines}
use Rattle.heed_lines.proofs.put_heed.Goals as goal

pub returns-then-number_decided-eq0 : goal.returns-then-number_decided-eq0
returns-then-number_decided-eq0 c = search (rules, heed_lines)

pub returns : goal.returns
returns c = search (rules, heed_lines)
