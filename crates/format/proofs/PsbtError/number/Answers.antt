-- `PsbtError::number` is the paper's number of each case.
use Rattle.format.proofs.Refusals.{counts_from_one}
use Rattle.format.proofs.PsbtError.number.Goals as goal

pub returns : goal.returns
returns c = counts_from_one c.args.self
