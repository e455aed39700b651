-- `unsigned_tx::is_allowed` meets its contract.
use Rattle.std.proofs.Common.{rules}
use Rattle.unsigned_tx.specs.Surveys.{allowed_at}
use Rattle.unsigned_tx.proofs.is_allowed.Goals as goal

pub returns : goal.returns
unfolding allowed_at
returns c = search rules
