-- `output_script::output_script_part` meets its contract.
use Rattle.std.proofs.Common.{rules}
use Rattle.output_script.proofs.Scripts.{part_told}
use Rattle.output_script.proofs.output_script_part.Goals as goal

pub returns : goal.returns
returns c = search (rules, part_told)
