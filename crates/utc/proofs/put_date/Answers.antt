-- `utc::put_date` meets its contract.
use Rattle.std.proofs.Common.{rules}
use Rattle.text.proofs.Chains.{chain4}
use Rattle.utc.specs.Dates.{date_text}
use Rattle.utc.proofs.put_date.Goals as goal

pub returns : goal.returns
unfolding date_text
returns c = search (rules, chain4)
