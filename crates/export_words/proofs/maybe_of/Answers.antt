-- `export_words::maybe_of` meets its contract.
use Rattle.std.proofs.Common.{rules}
use Rattle.export_words.proofs.Words.{maybes}
use Rattle.export_words.proofs.maybe_of.Goals as goal

pub returns-then-w-eq-NO_VALUE : goal.returns-then-w-eq-NO_VALUE
returns-then-w-eq-NO_VALUE c = search (rules, maybes)

pub returns-else-w-eq-NO_VALUE : goal.returns-else-w-eq-NO_VALUE
returns-else-w-eq-NO_VALUE c = search (rules, maybes)
