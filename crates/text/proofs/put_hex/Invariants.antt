-- `text::put_hex` meets its contract. The loop's invariant: the bytes that are left, put from here, give the whole.
use Rattle.text.proofs.Lays.{Hexing}
use Rattle.text.proofs.put_hex.Given as goal

abbrev pub invariant-loop-byte : goal.invariant-loop-byte
invariant-loop-byte l = Hexing l.at l.initial.out l.bytes l.to l.out l.byte-index
