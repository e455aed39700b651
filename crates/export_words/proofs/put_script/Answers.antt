-- `export_words::put_script` meets its contract: the words of its value are put.
use Rattle.std.proofs.Common.{refl}
use Rattle.format.specs.Told.{told_script}
use Rattle.export_words.proofs.Answers.{put_told, script_number}
use Rattle.export_words.proofs.put_script.Goals as goal

pub returns : goal.returns
unfolding told_script
returns c = put_told told_script _ _ _ _ (λ e. refl) script_number (λ v w h. h) c.put_answer.ensures
