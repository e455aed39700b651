-- `export_words::put_set` meets its contract: the words of its value are put.
use Rattle.std.proofs.Common.{refl}
use Rattle.format.specs.Told.{told_set}
use Rattle.export_words.proofs.Answers.{put_told, set_number}
use Rattle.export_words.proofs.put_set.Goals as goal

pub returns : goal.returns
unfolding told_set
returns c = put_told told_set _ _ _ _ (λ e. refl) set_number (λ v w h. h) c.put_answer.ensures
