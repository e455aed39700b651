-- `lock::all_asks` meets its contract. The loop's invariant: what the inputs from number i on add is what all ask for.
use Rattle.lock.proofs.Locks.{Walking}
use Rattle.lock.proofs.all_asks.Given as goal

abbrev pub invariant-loop-i : goal.invariant-loop-i
invariant-loop-i l = Walking l.file l.pairs l.maps l.fn.psbt l.asks l.i
