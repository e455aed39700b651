-- `unsigned_tx::survey_inputs` meets its contract. The loop's invariant: what is known of the inputs before number i, with those from i on,
-- is what is known of all.
use Rattle.unsigned_tx.proofs.Surveys.{Surveying}
use Rattle.unsigned_tx.proofs.survey_inputs.Given as goal

abbrev pub invariant-loop-i : goal.invariant-loop-i
invariant-loop-i l = Surveying l.file l.pairs l.maps l.fn.psbt l.asks l.ok l.i
