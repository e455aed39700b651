-- `scripts::entry_at` meets its contract.
use Rattle.std.proofs.Common.{rules}
use Rattle.scripts.proofs.Tables.{entries}
use Rattle.scripts.proofs.entry_at.Goals as goal

pub returns-then-i-whole : goal.returns-then-i-whole
returns-then-i-whole c = search (rules, entries)

pub returns-then-i-whole-2 : goal.returns-then-i-whole-2
returns-then-i-whole-2 c = search (rules, entries)

pub returns : goal.returns
returns c = search (rules, entries)
