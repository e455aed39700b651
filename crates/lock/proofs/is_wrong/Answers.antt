-- `lock::is_wrong` meets its contract.
use Rattle.std.proofs.Common.{rules}
use Rattle.lock.specs.Asks.{is_wrong}
use Rattle.lock.proofs.is_wrong.Goals as goal

pub returns-in-Wrong : goal.returns-in-Wrong
unfolding is_wrong
returns-in-Wrong c = search rules

pub returns-in_default : goal.returns-in_default
unfolding is_wrong
returns-in_default c = search rules
