-- `dump_text::put_maps` meets its contract.
use Rattle.std.proofs.Common.{rules}
use Rattle.dump_text.proofs.Walks.{all_maps}
use Rattle.dump_text.proofs.put_maps.Goals as goal

pub returns-in_default : goal.returns-in_default
returns-in_default c = search (rules, all_maps)

pub put_map-to-requires : goal.put_map-to-requires
put_map-to-requires c = search (rules, all_maps)

pub loop-m-preserved : goal.loop-m-preserved
loop-m-preserved c = search (rules, all_maps)

pub returns : goal.returns
returns c = search (rules, all_maps)
