-- `psbt::read_maps` is the definition's reading cut by the room: `Loops.antt` says what holds after each turn and at each way out.
use Rattle.std.proofs.Common.{rules}
use Rattle.psbt.proofs.Loops.{loops, one_key, one_value, one_writes, one_key_in, one_value_in}
use Rattle.psbt.proofs.Loops.{one_less, one_again, exit_22, map_writes, exit_after, exit_done, maps_next}
use Rattle.psbt.proofs.read_maps.Goals as goal

pub maps-init : goal.maps-init
maps-init c = search (rules, loops)

pub write_pair-requires : goal.write_pair-requires
write_pair-requires c =
    search (one_writes, c.has_pair_room.ensures, (rw c.in-One.is at c.in-Ok.is), c.step_at.ensures, c.loop-x.invariant, c.requires)

pub overflow_add-le : goal.overflow_add-le
overflow_add-le c = search (one_key, (rw c.in-One.is at c.in-Ok.is), c.step_at.ensures, c.loop-x.invariant, c.requires)

pub overflow_add-at : goal.overflow_add-at
overflow_add-at c = search (one_value, (rw c.in-One.is at c.in-Ok.is), c.step_at.ensures, c.loop-x.invariant, c.requires)

pub slice_bounds-note_pair-end : goal.slice_bounds-note_pair-end
slice_bounds-note_pair-end c = search (rules, one_key_in, (rw c.in-One.is at c.in-Ok.is), c.step_at.ensures, c.loop-x.invariant)

pub slice_bounds-note_pair-end-in-One : goal.slice_bounds-note_pair-end-in-One
slice_bounds-note_pair-end-in-One c = search (rules, one_value_in, (rw c.in-One.is at c.in-Ok.is), c.step_at.ensures, c.loop-x.invariant)

pub loop-x-smaller : goal.loop-x-smaller
loop-x-smaller c = search (one_less, (rw c.in-One.is at c.in-Ok.is), c.step_at.ensures, c.loop-x.invariant)

pub loop-x-preserved : goal.loop-x-preserved
loop-x-preserved c =
    search (
      one_again,
      c.note_pair-known.ensures,
      c.write_pair.ensures,
      c.has_pair_room.ensures,
      (rw c.in-One.is at c.in-Ok.is),
      c.step_at.ensures,
      c.loop-x.invariant,
    )

pub write_map-requires : goal.write_map-requires
write_map-requires c =
    search (
      map_writes,
      c.step_at.ensures,
      c.loop-x.invariant,
      c.has_map_room.ensures,
      c.maps.invariant,
      c.requires,
    )

pub maps-smaller : goal.maps-smaller
maps-smaller c = search (rules, loops, (rw c.in-Over.is at c.in-Ok.is), c.step_at.ensures, c.loop-x.invariant)

pub maps-preserved : goal.maps-preserved
maps-preserved c =
    search (
      maps_next,
      (rw c.in-Map.is at c.in-Ok-after_map.is),
      c.after_map.ensures,
      c.write_map.ensures,
      (rw c.in-Over.is at c.in-Ok.is),
      c.step_at.ensures,
      c.loop-x.invariant,
      c.has_map_room.ensures,
      c.maps.invariant,
    )

pub returns-then-not-has_map_room : goal.returns-then-not-has_map_room
returns-then-not-has_map_room c = search (rules, loops)

pub returns-in-Err : goal.returns-in-Err
returns-in-Err c = search (rules, loops)

pub returns-then-not-has_pair_room : goal.returns-then-not-has_pair_room
returns-then-not-has_pair_room c =
    search (
      exit_22,
      c.has_pair_room.ensures,
      (rw c.in-One.is at c.in-Ok.is),
      c.step_at.ensures,
      c.loop-x.invariant,
      c.has_map_room.ensures,
      c.maps.invariant,
    )

pub returns-in-Err-after_map : goal.returns-in-Err-after_map
returns-in-Err-after_map c =
    search (
      exit_after,
      c.in-Err-after_map.is,
      c.after_map.ensures,
      c.write_map.ensures,
      (rw c.in-Over.is at c.in-Ok.is),
      c.step_at.ensures,
      c.loop-x.invariant,
      c.has_map_room.ensures,
      c.maps.invariant,
    )

pub returns-in-Done : goal.returns-in-Done
returns-in-Done c =
    search (
      exit_done,
      (rw c.in-Done.is at c.in-Ok-after_map.is),
      c.after_map.ensures,
      c.write_map.ensures,
      (rw c.in-Over.is at c.in-Ok.is),
      c.step_at.ensures,
      c.loop-x.invariant,
      c.has_map_room.ensures,
      c.maps.invariant,
    )
