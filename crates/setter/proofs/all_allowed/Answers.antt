-- `setter::all_allowed` meets its contract.
use Rattle.std.proofs.Common.{rules, tests}
use Rattle.std.proofs.lemmas.Iterator.Search.{all_from_yields_List}
use Rattle.setter.proofs.Records.{all_pass, held_yields}
use Rattle.format.specs.Scripts.{allowed}
use Rattle.setter.proofs.all_allowed.Goals as goal

pub returns : goal.returns
returns g c =
    all_pass _ _ _
    (all_from_yields_List (allowed c.args.outputs c.args.buffer.now) _ _ _ c.all.ensures.ran (held_yields g.L.Assignments.held _)
    (λ x b q k. search (rules, tests)))
