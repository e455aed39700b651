-- Arrays of zeros and how long they are, told by lemmas: counting out a large one would take too deep a computation.
use mathlib.Core.Path.{◌≡◌, refl, sym}
use Prim.Native.Nat.{ℕ}
use lib.ListN.{length, replicate, length-replicate}
use Rattle.rooms.specs.Rooms.{zeros}

pub room : (n : ℕ) → n ≡ length (replicate {A = ℕ} n 0)
room n = sym (length-replicate n 0)

-- such an array is the lent memory of the definitions
pub room_is : (n : ℕ) → replicate n 0 ≡ zeros n
unfolding zeros
room_is n = refl

pub zeros_long : (n : ℕ) → length (zeros n) ≡ n
unfolding zeros
zeros_long n = length-replicate n 0
