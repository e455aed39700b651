-- `why_text::put_whole` meets its contract.
use Rattle.std.proofs.Common.{rules}
use Rattle.text.proofs.Lays.{fronts}
use Rattle.why_text.proofs.Sizes.{why_fits}
use Rattle.why_text.proofs.put_whole.Goals as goal

pub returns-clause-upper_bound : goal.returns-clause-upper_bound
returns-clause-upper_bound c = search (rules, fronts, why_fits)

pub returns-clause-out_after : goal.returns-clause-out_after
returns-clause-out_after c = search (rules, fronts, why_fits)
