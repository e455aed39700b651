-- `text::put_hex_or_dash` meets its contract.
use Rattle.std.proofs.Common.{rules}
use Rattle.text.proofs.Lays.{dashes}
use Rattle.text.proofs.put_hex_or_dash.Goals as goal

pub returns-then-is_empty : goal.returns-then-is_empty
returns-then-is_empty c = search (rules, dashes)

pub returns : goal.returns
returns c = search (rules, dashes)
