-- `wire::width` meets its contract: each first byte has its width.
use Rattle.std.proofs.Common.{rules}
use Rattle.wire.specs.Leads.{width}
use Rattle.wire.proofs.width.Goals as goal

pub returns-in-253 : goal.returns-in-253
unfolding width
returns-in-253 c = search rules

pub returns-in-254 : goal.returns-in-254
unfolding width
returns-in-254 c = search rules

pub returns-in_default : goal.returns-in_default
unfolding width
returns-in_default c = search rules
