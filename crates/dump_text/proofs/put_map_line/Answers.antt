-- `dump_text::put_map_line` meets its contract.
use Rattle.std.proofs.Common.{rules}
use Rattle.dump_text.specs.Lines.{map_line}
use Rattle.text.proofs.Chains.{chain5}
use Rattle.dump_text.proofs.put_map_line.Goals as goal

pub returns : goal.returns
unfolding map_line
returns c = search (rules, chain5)
