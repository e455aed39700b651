-- `why_text::put_inputs` meets its contract. The loop's invariant: the lines of the inputs from `i` on, put from here, give all.
use Rattle.std.proofs.Common.{◌≡◌, ◌-◌}
use Rattle.text.specs.Spots.{spot, lay}
use Rattle.why_text.proofs.Wholes.{lines}
use Rattle.why_text.proofs.put_inputs.Given as goal

abbrev pub invariant-loop-i : goal.invariant-loop-i
invariant-loop-i l = lay (spot l.to l.out) (lines l.file l.pairs l.maps l.psbt l.i (l.psbt.inputs - l.i))
    ≡ lay (spot l.at l.initial.out) (lines l.file l.pairs l.maps l.psbt 0 l.psbt.inputs)
