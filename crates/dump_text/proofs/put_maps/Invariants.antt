-- `dump_text::put_maps` meets its contract. The loop's invariant: the lines of the maps from `m` on, put from here, give all.
use Rattle.std.proofs.Common.{◌≡◌}
use Rattle.format.specs.Tables.{view, maps_reported}
use Rattle.text.specs.Spots.{spot, lay}
use Rattle.dump_text.specs.Lines.{maps_text}
use Rattle.dump_text.proofs.Walks.{lines_from}
use Rattle.dump_text.proofs.put_maps.Given as goal

abbrev pub invariant-loop-m : goal.invariant-loop-m
invariant-loop-m l = lay (spot l.to l.out) (lines_from l.file l.pairs l.maps l.psbt l.m)
    ≡ lay (spot l.at l.initial.out) (maps_text (view l.file l.pairs l.maps l.psbt) 0 (maps_reported l.psbt))
