-- `musig2::participant_count` meets its contract.
use Rattle.std.proofs.Common.{rules}
use Rattle.musig2.proofs.Participants.{participants}
use Rattle.musig2.proofs.participant_count.Goals as goal

pub returns : goal.returns
returns c = search (rules, participants)
