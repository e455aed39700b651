-- `utc::put_hour` meets its contract.
use Rattle.std.proofs.Common.{rules}
use Rattle.text.proofs.Chains.{chain5}
use Rattle.utc.specs.Dates.{hour_text}
use Rattle.utc.proofs.put_hour.Goals as goal

pub returns : goal.returns
unfolding hour_text
returns c = search (rules, chain5)
