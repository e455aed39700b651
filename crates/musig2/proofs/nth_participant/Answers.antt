-- `musig2::nth_participant` meets its contract.
use Rattle.std.proofs.Common.{rules}
use Rattle.musig2.proofs.Participants.{participants}
use Rattle.musig2.proofs.nth_participant.Goals as goal

pub returns-in-None : goal.returns-in-None
returns-in-None c = search (rules, participants)

pub returns-in-Some : goal.returns-in-Some
returns-in-Some c = search (rules, participants)

pub returns-in-Some-2 : goal.returns-in-Some-2
returns-in-Some-2 c = search (rules, participants)
