-- `export_words::put_tx` meets its contract: the words of its value are put.
use Rattle.std.proofs.Common.{refl}
use Rattle.format.specs.Told.{told_tx}
use Rattle.export_words.proofs.Answers.{put_told, tx_number}
use Rattle.export_words.proofs.put_tx.Goals as goal

pub returns : goal.returns
unfolding told_tx
returns c = put_told told_tx _ _ _ _ (λ e. refl) tx_number (λ v w h. h) c.put_answer.ensures
