-- `dump_text::put_head` meets its contract.
use Rattle.std.proofs.Common.{rules}
use Rattle.dump_text.proofs.Pieces.{head_line_lem}
use Rattle.dump_text.proofs.put_head.Goals as goal

pub returns : goal.returns
returns c = search (rules, head_line_lem)
