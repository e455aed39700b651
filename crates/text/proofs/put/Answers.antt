-- `text::put` meets its contract: what is left of the text, put from here, gives the whole.
use Rattle.std.proofs.Common.{rules}
use Rattle.text.proofs.Lays.{lays}
use Rattle.text.proofs.put.Goals as goal

pub loop-byte-preserved : goal.loop-byte-preserved
loop-byte-preserved c = search (rules, lays)

pub returns : goal.returns
returns c = search (rules, lays)
