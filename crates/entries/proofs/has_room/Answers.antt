-- `entries::has_room` meets its contract.
use Rattle.std.proofs.Common.{rules}
use Rattle.entries.proofs.Tables.{room_tested}
use Rattle.entries.proofs.has_room.Goals as goal

pub returns : goal.returns
returns c = search (rules, room_tested)
