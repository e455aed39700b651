-- `fitness::key_in` meets its contract.
use Rattle.std.proofs.Common.{rules}
use Rattle.format.specs.Entries.{key_in_def}
use Rattle.fitness.specs.Parts.{bytes_at}
use Rattle.fitness.proofs.key_in.Goals as goal

pub returns : goal.returns
unfolding key_in_def bytes_at
returns c = search rules
