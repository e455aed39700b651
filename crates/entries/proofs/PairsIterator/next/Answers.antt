-- `next` of a walk over entries meets its contract: it gives the first of the entries left, and leaves the others.
use Rattle.std.proofs.Common.{rules}
use Rattle.entries.specs.Walks.{pairs_left}
use Rattle.entries.proofs.Walks.{nexts}
use Rattle.entries.proofs.PairsIterator.next.Goals as goal

pub returns-in_default-clause-steps : goal.returns-in_default-clause-steps
unfolding pairs_left
returns-in_default-clause-steps c = search (rules, nexts)

pub returns-clause-steps : goal.returns-clause-steps
unfolding pairs_left
returns-clause-steps c = search (rules, nexts)

pub returns-clause-goes : goal.returns-clause-goes
unfolding pairs_left
returns-clause-goes c = search (rules, nexts)
