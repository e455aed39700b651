-- `known_so_far::validate_silent_payment_output` is the rule of an output.
use Rattle.std.proofs.Common.{rules}
use Rattle.known_so_far.proofs.Parts.{outputs}
use Rattle.known_so_far.proofs.validate_silent_payment_output.Goals as goal

pub returns-then-is_modifiable : goal.returns-then-is_modifiable
returns-then-is_modifiable c = search (rules, outputs)

pub returns-then-seen-2 : goal.returns-then-seen-2
returns-then-seen-2 c = search (rules, outputs)

pub returns-then-seen-3 : goal.returns-then-seen-3
returns-then-seen-3 c = search (rules, outputs)

pub returns-then-seen : goal.returns-then-seen
returns-then-seen c = search (rules, outputs)

pub returns-then-seen-4 : goal.returns-then-seen-4
returns-then-seen-4 c = search (rules, outputs)

pub returns : goal.returns
returns c = search (rules, outputs)
