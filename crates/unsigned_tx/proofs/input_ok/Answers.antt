-- `unsigned_tx::input_ok` meets its contract.
use Rattle.std.proofs.Common.{rules}
use Rattle.unsigned_tx.proofs.Surveys.{oks}
use Rattle.unsigned_tx.proofs.input_ok.Goals as goal

pub returns-then-is_there-2 : goal.returns-then-is_there-2
returns-then-is_there-2 c = search (rules, oks)

pub returns-else-is_there-2 : goal.returns-else-is_there-2
returns-else-is_there-2 c = search (rules, oks)
