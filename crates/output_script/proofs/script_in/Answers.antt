-- `output_script::script_in` meets its contract.
use Rattle.std.proofs.Common.{rules}
use Rattle.output_script.proofs.Scripts.{by_map}
use Rattle.output_script.proofs.script_in.Goals as goal

pub returns-in-None : goal.returns-in-None
returns-in-None c = search (rules, by_map)

pub returns-in-Some : goal.returns-in-Some
returns-in-Some c = search (rules, by_map)
