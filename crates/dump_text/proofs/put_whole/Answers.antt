-- `dump_text::put_whole` meets its contract.
use Rattle.std.proofs.Common.{rules}
use Rattle.text.proofs.Lays.{fronts}
use Rattle.dump_text.proofs.Sizes.{dump_fits}
use Rattle.dump_text.proofs.put_whole.Goals as goal

pub returns-clause-upper_bound : goal.returns-clause-upper_bound
returns-clause-upper_bound c = search (rules, fronts, dump_fits)

pub returns-clause-out_after : goal.returns-clause-out_after
returns-clause-out_after c = search (rules, fronts, dump_fits)
