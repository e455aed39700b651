-- `export_words::put_numbered` meets its contract: the words of its value are put.
use Rattle.std.proofs.Common.{refl}
use Rattle.format.specs.Told.{told_numbered}
use Rattle.export_words.proofs.Answers.{put_told, numbered_number}
use Rattle.export_words.proofs.put_numbered.Goals as goal

pub returns : goal.returns
unfolding told_numbered
returns c = put_told told_numbered _ _ _ _ (λ e. refl) numbered_number (λ v w h. h) c.put_answer.ensures
