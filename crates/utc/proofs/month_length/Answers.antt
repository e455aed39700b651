-- `utc::month_length` meets its contract.
use Rattle.std.proofs.Common.{rules}
use Rattle.utc.proofs.Pieces.{month_lengths}
use Rattle.utc.proofs.month_length.Goals as goal

pub returns-then-is_leap : goal.returns-then-is_leap
returns-then-is_leap c = search (rules, month_lengths)

pub returns-else-is_leap : goal.returns-else-is_leap
returns-else-is_leap c = search (rules, month_lengths)

pub returns-then-is_short : goal.returns-then-is_short
returns-then-is_short c = search (rules, month_lengths)

pub returns-else-is_short : goal.returns-else-is_short
returns-else-is_short c = search (rules, month_lengths)
