-- `dump_text::put_entry` meets its contract.
use Rattle.std.proofs.Common.{rules}
use Rattle.dump_text.proofs.Pieces.{entry_line}
use Rattle.dump_text.proofs.put_entry.Goals as goal

pub returns : goal.returns
returns c = search (rules, entry_line)
