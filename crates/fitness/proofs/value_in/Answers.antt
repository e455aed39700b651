-- `fitness::value_in` meets its contract.
use Rattle.std.proofs.Common.{rules}
use Rattle.format.specs.Entries.{value_in_def}
use Rattle.fitness.specs.Parts.{bytes_at}
use Rattle.fitness.proofs.value_in.Goals as goal

pub returns : goal.returns
unfolding value_in_def bytes_at
returns c = search rules
