-- `musig2::output::get_musig2_participant_count` meets its contract: the list first.
use Rattle.std.proofs.Common.{rules}
use Rattle.format.proofs.Answers.{hands_on}
use Rattle.musig2.proofs.Participants.{lists}
use Rattle.musig2.proofs.output.get_musig2_participant_count.Goals as goal

pub returns-in_err-list : goal.returns-in_err-list
returns-in_err-list c = rw (hands_on _ c.in_err-list.field-0.0 c.from_residual.ensures.1) (search (rules, lists, c.in_err-list.was))

pub returns : goal.returns
returns c = search (rules, lists, c.in_ok-list.was)
