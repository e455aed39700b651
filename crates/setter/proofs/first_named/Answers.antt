-- `setter::first_named` meets its contract.
use Rattle.std.proofs.Common.{rules, tests, sym, ◌∙◌}
use Rattle.std.proofs.lemmas.Iterator.Adapters.{option_map_id}
use Rattle.std.proofs.lemmas.Iterator.Search.{find_from_yields_List}
use Rattle.setter.proofs.Records.{find_named, held_yields}
use Rattle.setter.proofs.first_named.Goals as goal

pub returns : goal.returns
returns g c =
    find_named _ _ _
    (sym (option_map_id c.find.result)
    ∙ find_from_yields_List _ _ _ _ c.find.ensures.ran (held_yields g.L.Assignments.held _) (λ x b q k. search (rules, tests)))
