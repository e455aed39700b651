-- `heed_lines::is_final` meets its contract.
use Rattle.std.proofs.Common.{rules}
use Rattle.heed_lines.specs.Heeds.{is_final}
use Rattle.heed_lines.proofs.Laws.{final_by}
use Rattle.heed_lines.proofs.is_final.Goals as goal

pub returns-in-Ok-Some : goal.returns-in-Ok-Some
unfolding is_final
returns-in-Ok-Some c = search (rules, final_by, c.in-Ok-Some.is, c.in-Ok-Some.field-0-is)

pub returns-in-Ok-None : goal.returns-in-Ok-None
unfolding is_final
returns-in-Ok-None c = search (rules, final_by)

pub returns-in-Ok-None-2 : goal.returns-in-Ok-None-2
unfolding is_final
returns-in-Ok-None-2 c = search (rules, final_by)
