-- `writer::put_bytes` meets its contract.
use Rattle.std.proofs.Common.{rules}
use Rattle.writer.proofs.Puts.{copies}
use Rattle.writer.proofs.put_bytes.Goals as goal

pub loop-j-preserved : goal.loop-j-preserved
loop-j-preserved c = search (rules, copies)

pub returns : goal.returns
returns c = search (rules, copies)
