-- `reasons::put_meaning` meets its contract.
use Rattle.std.proofs.Common.{rules}
use Rattle.reasons.proofs.Meanings.{meaning_by}
use Rattle.text.specs.Spelled.{decimal, decimal_in, digit}
use Rattle.reasons.proofs.put_meaning.Goals as goal

pub returns : goal.returns
unfolding digit decimal_in decimal
returns c = search (rules, meaning_by)
