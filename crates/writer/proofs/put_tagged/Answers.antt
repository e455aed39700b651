-- `writer::put_tagged` meets its contract.
use Rattle.std.proofs.Common.{rules}
use Rattle.writer.proofs.Puts.{tagged}
use Rattle.writer.proofs.put_tagged.Goals as goal

pub returns : goal.returns
returns c = search (rules, tagged)
