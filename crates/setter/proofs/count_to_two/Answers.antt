-- `setter::count_to_two` meets its contract.
use Rattle.std.proofs.Common.{rules, tests}
use Rattle.std.proofs.lemmas.Iterator.{YieldsList-from_take}
use Rattle.std.proofs.lemmas.Iterator.Consumers.{YieldsList-at, YieldsList-from_filter, count_from_yields_List}
use Rattle.setter.proofs.Records.{two_named, held_yields}
use Rattle.setter.proofs.count_to_two.Goals as goal

pub returns : goal.returns
returns g c =
    two_named _ _ _
    (count_from_yields_List c.take.result c.count.result c.count.ensures.ran
    (YieldsList-from_take 2
    (YieldsList-at c.take.ensures.source
    (YieldsList-from_filter _ _
    (YieldsList-at c.filter.ensures.source (held_yields g.L.Assignments.held _))
    c.filter.ensures.closure
    (λ x r q k. search (rules, tests))))
    c.take.ensures.count))
