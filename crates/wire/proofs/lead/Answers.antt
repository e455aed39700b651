-- `wire::lead` meets its contract: where the slice is long enough its front is read, else all of it is the front.
use Rattle.std.proofs.Common.{rules}
use Rattle.wire.proofs.Leads.{leads}
use Rattle.wire.proofs.lead.Goals as goal

pub returns-then-w-s : goal.returns-then-w-s
returns-then-w-s c = search (rules, leads)

pub returns-else-w-s : goal.returns-else-w-s
returns-else-w-s c = search (rules, leads)
