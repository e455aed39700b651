-- `setter::is_taproot` meets its contract.
use Rattle.std.proofs.Common.{rules}
use Rattle.setter.proofs.Judges.{sounds}
use Rattle.setter.proofs.is_taproot.Goals as goal

pub script_in-requires : goal.script_in-requires
script_in-requires c = search (rules, sounds)

pub returns-then-script_lies : goal.returns-then-script_lies
returns-then-script_lies c = search (rules, sounds)

pub returns-else-script_lies : goal.returns-else-script_lies
returns-else-script_lies c = search (rules, sounds)
