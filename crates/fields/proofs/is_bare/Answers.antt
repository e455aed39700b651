-- `fields::is_bare` meets its contract: each way out has its law.
use Rattle.std.proofs.Common.{rules}
use Rattle.fields.proofs.Fronts.{bares}
use Rattle.fields.proofs.is_bare.Goals as goal

pub returns-then-eq : goal.returns-then-eq
returns-then-eq c = search (rules, bares)

pub returns-else-eq : goal.returns-else-eq
returns-else-eq c = search (rules, bares)
