-- `rooms::pair_room` meets its contract: it is the lent memory of the definitions.
use Rattle.rooms.proofs.Zeros.{room_is}
use Rattle.rooms.proofs.pair_room.Goals as goal

pub returns-clause-value : goal.returns-clause-value
returns-clause-value c = room_is _
