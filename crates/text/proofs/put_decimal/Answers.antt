-- `text::put_decimal` meets its contract.
use Rattle.std.proofs.Common.{rules}
use Rattle.text.proofs.Lays.{spelled}
use Rattle.text.proofs.put_decimal.Goals as goal

pub returns : goal.returns
returns c = search (rules, spelled)
