-- `setter::named_count` meets its contract: the assignments left are all, then one and the others behind it, then none.
use Rattle.std.proofs.Common.{refl, ap}
use Rattle.format.proofs.Counts.{count_first, count_fits, count_more, count_done}
use Rattle.setter.specs.declared.assignments.Held.{Held}
use Rattle.setter.proofs.Records.{all_named}
use Rattle.setter.proofs.named_count.Goals as goal

pub loop-a-init : goal.loop-a-init
loop-a-init g c = count_first _ _ _ (ap (λ (s : Held _). g.L.Assignments.held s.list) c.into_iter-a-iterator.ensures.into_iter_gives)

pub overflow_add-n : goal.overflow_add-n
overflow_add-n g c = count_fits _ _ _ _ c.loop-a.invariant _ _ c.in-Some.ensures.steps _ c.requires

pub loop-a-preserved : goal.loop-a-preserved
loop-a-preserved g c = count_more _ _ _ _ c.loop-a.invariant _ _ c.in-Some.ensures.steps _ refl

pub returns : goal.returns
returns g c = all_named _ _ _ (count_done _ _ _ _ c.loop-a.invariant c.in-None.ensures.steps.0)
