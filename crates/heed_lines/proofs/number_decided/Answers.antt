-- `heed_lines::number_decided` meets its contract.
use Rattle.std.proofs.Common.{rules}
use Rattle.heed_lines.proofs.Laws.{number_refused, number_kept, number_none}
use Rattle.heed_lines.proofs.number_decided.Goals as goal

pub returns-in_default : goal.returns-in_default
returns-in_default c = search (rules, number_refused)

pub returns-in_default-decided : goal.returns-in_default-decided
returns-in_default-decided c = search (rules, number_none)

pub returns-in-Height : goal.returns-in-Height
returns-in-Height c = number_kept _ _ c.in-Ok.is _ c.in-Height.is

pub returns-in-Height-2 : goal.returns-in-Height-2
returns-in-Height-2 c = number_kept _ _ c.in-Ok.is _ c.in-Height.is

pub returns-in-Height-3 : goal.returns-in-Height-3
returns-in-Height-3 c = number_kept _ _ c.in-Ok.is _ c.in-Height.is
