-- `fitness::bytes_at` meets its contract.
use Rattle.std.proofs.Common.{rules}
use Rattle.fitness.proofs.Parts.{parts}
use Rattle.fitness.proofs.bytes_at.Goals as goal

pub returns-then-file-start : goal.returns-then-file-start
returns-then-file-start c = search (rules, parts)

pub returns-then-file-start-2 : goal.returns-then-file-start-2
returns-then-file-start-2 c = search (rules, parts)

pub returns : goal.returns
returns c = search (rules, parts)
