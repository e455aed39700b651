-- `output_script::in_file` meets its contract.
use Rattle.std.proofs.Common.{rules}
use Rattle.output_script.proofs.Scripts.{ways}
use Rattle.output_script.proofs.in_file.Goals as goal

pub returns-then-not-entry_fits : goal.returns-then-not-entry_fits
returns-then-not-entry_fits c = search (rules, ways)

pub returns : goal.returns
returns c = search (rules, ways)
