-- `fitness::is_reported` meets its contract.
use Rattle.std.proofs.Common.{rules}
use Rattle.fitness.proofs.Maps.{reported}
use Rattle.fitness.proofs.is_reported.Goals as goal

pub returns-then-m-psbt : goal.returns-then-m-psbt
returns-then-m-psbt c = search (rules, reported)

pub returns-else-m-psbt : goal.returns-else-m-psbt
returns-else-m-psbt c = search (rules, reported)
