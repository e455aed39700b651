-- `utc::put_ymd` meets its contract.
use Rattle.std.proofs.Common.{rules}
use Rattle.text.proofs.Chains.{chain5}
use Rattle.utc.specs.Dates.{ymd_text}
use Rattle.utc.proofs.put_ymd.Goals as goal

pub returns : goal.returns
unfolding ymd_text
returns c = search (rules, chain5)
