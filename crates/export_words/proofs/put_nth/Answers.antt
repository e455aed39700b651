-- `export_words::put_nth` meets its contract: the words of its value are put.
use Rattle.std.proofs.Common.{refl}
use Rattle.format.specs.Told.{told_nth}
use Rattle.export_words.proofs.Answers.{put_told, nth_number}
use Rattle.export_words.proofs.put_nth.Goals as goal

pub returns : goal.returns
unfolding told_nth
returns c = put_told told_nth _ _ _ _ (λ e. refl) nth_number (λ v w h. h) c.put_answer.ensures
