-- `tx_size::is_there` meets its contract.
use Rattle.std.proofs.Common.{rules}
use Rattle.tx_size.specs.Places.{there_at}
use Rattle.tx_size.proofs.is_there.Goals as goal

pub returns-in-At : goal.returns-in-At
unfolding there_at
returns-in-At c = search rules

pub returns-in_default : goal.returns-in_default
unfolding there_at
returns-in_default c = search rules
