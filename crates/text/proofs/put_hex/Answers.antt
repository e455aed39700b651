-- `text::put_hex` meets its contract: the bytes that are left, put from here, give the whole.
use Rattle.std.proofs.Common.{rules}
use Rattle.text.proofs.Lays.{hexes}
use Rattle.text.proofs.put_hex.Goals as goal

pub loop-byte-preserved : goal.loop-byte-preserved
loop-byte-preserved c = search (rules, hexes)

pub returns : goal.returns
returns c = search (rules, hexes)
