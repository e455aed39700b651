-- `tx_size::has_script` meets its contract.
use Rattle.std.proofs.Common.{rules}
use Rattle.tx_size.specs.Places.{has_script}
use Rattle.tx_size.proofs.has_script.Goals as goal

pub returns : goal.returns
unfolding has_script
returns c = search rules
