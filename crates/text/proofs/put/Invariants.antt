-- `text::put` meets its contract. The loop's invariant: what is left of the text, put from here, gives the whole.
use Rattle.text.proofs.Lays.{Laying}
use Rattle.text.proofs.put.Given as goal

abbrev pub invariant-loop-byte : goal.invariant-loop-byte
invariant-loop-byte l = Laying l.at l.initial.out l.text l.to l.out l.byte-index
