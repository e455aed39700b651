-- `export_words::put_looked` meets its contract: the words of its value are put.
use Rattle.std.proofs.Common.{refl}
use Rattle.format.specs.Told.{told_looked}
use Rattle.export_words.proofs.Answers.{put_told, looked_number}
use Rattle.export_words.proofs.put_looked.Goals as goal

pub returns : goal.returns
unfolding told_looked
returns c = put_told told_looked _ _ _ _ (λ e. refl) looked_number (λ v w h. h) c.put_answer.ensures
