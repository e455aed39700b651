-- `unsigned_tx::scripts_fit` meets its contract. The loop's invariant: judging entries from number i on gives what judging all gives.
use Rattle.unsigned_tx.proofs.Judges.{Judging}
use Rattle.unsigned_tx.proofs.scripts_fit.Given as goal

abbrev pub invariant-loop-i : goal.invariant-loop-i
invariant-loop-i l = Judging l.file l.pairs l.maps l.fn.psbt l.scripts l.i
