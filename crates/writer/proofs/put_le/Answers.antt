-- `writer::put_le` meets its contract.
use Rattle.std.proofs.Common.{rules}
use Rattle.writer.proofs.Puts.{puts}
use Rattle.writer.proofs.put_le.Goals as goal

pub loop-j-preserved : goal.loop-j-preserved
loop-j-preserved c = search (rules, puts)

pub returns : goal.returns
returns c = search (rules, puts)
