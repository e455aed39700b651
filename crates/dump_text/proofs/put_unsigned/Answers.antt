-- `dump_text::put_unsigned` meets its contract.
use Rattle.std.proofs.Common.{rules}
use Rattle.dump_text.proofs.Pieces.{lasts}
use Rattle.dump_text.proofs.put_unsigned.Goals as goal

pub returns-in-Err : goal.returns-in-Err
returns-in-Err c = search (rules, lasts)

pub returns-in-Ok : goal.returns-in-Ok
returns-in-Ok c = search (rules, lasts)
