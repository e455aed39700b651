-- `text::put_signed` meets its contract.
use Rattle.std.proofs.Common.{rules}
use Rattle.text.proofs.Lays.{signs}
use Rattle.text.proofs.put_signed.Goals as goal

pub overflow_sub-bits : goal.overflow_sub-bits
overflow_sub-bits c = search (rules, signs)

pub returns-then-n-lt0 : goal.returns-then-n-lt0
returns-then-n-lt0 c = search (rules, signs)

pub returns : goal.returns
returns c = search (rules, signs)
