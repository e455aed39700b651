-- `dump_text::put_refused` meets its contract.
use Rattle.std.proofs.Common.{rules}
use Rattle.dump_text.proofs.Pieces.{refused_line_lem}
use Rattle.dump_text.proofs.put_refused.Goals as goal

pub returns : goal.returns
returns c = search (rules, refused_line_lem)
