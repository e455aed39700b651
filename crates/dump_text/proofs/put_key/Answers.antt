-- `dump_text::put_key` meets its contract.
use Rattle.std.proofs.Common.{rules}
use Rattle.dump_text.proofs.Pieces.{keys}
use Rattle.dump_text.proofs.put_key.Goals as goal

pub returns-in_default : goal.returns-in_default
returns-in_default c = search (rules, keys)

pub returns : goal.returns
returns c = search (rules, keys)
