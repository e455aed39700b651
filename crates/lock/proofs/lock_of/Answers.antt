-- `lock::lock_of` meets its contract.
use Rattle.std.proofs.Common.{rules, refl}
use Rattle.format.specs.Locks.{lock_of}
use Rattle.format.proofs.Answers.{hands_on}
use Rattle.lock.specs.Asks.{locked_by}
use Rattle.lock.proofs.lock_of.Goals as goal

pub returns-in_err-decided : goal.returns-in_err-decided
unfolding locked_by lock_of
returns-in_err-decided c = rw (hands_on _ c.in_err-decided.field-0.0 c.from_residual.ensures.1, c.in_err-decided.was) refl

pub returns-in-BothKinds : goal.returns-in-BothKinds
unfolding locked_by lock_of
returns-in-BothKinds c = search rules

pub returns-in-Height : goal.returns-in-Height
unfolding locked_by lock_of
returns-in-Height c = search rules

pub returns-in-Height-2 : goal.returns-in-Height-2
unfolding locked_by lock_of
returns-in-Height-2 c = search rules

pub returns-in-Height-3 : goal.returns-in-Height-3
unfolding locked_by lock_of
returns-in-Height-3 c = search rules
