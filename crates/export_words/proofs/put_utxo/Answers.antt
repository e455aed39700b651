-- `export_words::put_utxo` meets its contract: the words of its value are put.
use Rattle.std.proofs.Common.{refl}
use Rattle.format.specs.Told.{told_utxo}
use Rattle.export_words.proofs.Answers.{put_told, utxo_number}
use Rattle.export_words.proofs.put_utxo.Goals as goal

pub returns : goal.returns
unfolding told_utxo
returns c = put_told told_utxo _ _ _ _ (λ e. refl) utxo_number (λ v w h. h) c.put_answer.ensures
