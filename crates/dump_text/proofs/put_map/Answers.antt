-- `dump_text::put_map` meets its contract.
use Rattle.std.proofs.Common.{rules}
use Rattle.dump_text.proofs.Walks.{map_text_lem}
use Rattle.dump_text.proofs.put_map.Goals as goal

pub returns : goal.returns
returns c = search (rules, map_text_lem)
