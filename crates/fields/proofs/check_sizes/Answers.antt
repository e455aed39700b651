-- `fields::check_sizes` meets its contract: a type with no row is free.
use Rattle.std.proofs.Common.{rules}
use Rattle.format.specs.Rules.{sizes}
use Rattle.fields.proofs.Types.{free_types}
use Rattle.fields.proofs.check_sizes.Goals as goal

pub returns-then-has_type : goal.returns-then-has_type
unfolding sizes
returns-then-has_type c = search (rules, free_types)

pub returns-else-has_type : goal.returns-else-has_type
unfolding sizes
returns-else-has_type c = search (rules, free_types)
