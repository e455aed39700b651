-- `utc::year_length` meets its contract.
use Rattle.std.proofs.Common.{rules}
use Rattle.utc.proofs.Pieces.{year_lengths}
use Rattle.utc.proofs.year_length.Goals as goal

pub returns-then-is_leap : goal.returns-then-is_leap
returns-then-is_leap c = search (rules, year_lengths)

pub returns-else-is_leap : goal.returns-else-is_leap
returns-else-is_leap c = search (rules, year_lengths)
