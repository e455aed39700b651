-- `utc::put_day` meets its contract.
use Rattle.std.proofs.Common.{rules}
use Rattle.utc.proofs.Pieces.{day_text_lem}
use Rattle.utc.proofs.put_day.Goals as goal

pub returns : goal.returns
returns c = search (rules, day_text_lem)
