-- Bytes of a slice: they stay bytes in a part of it, and fit wider numbers.
use mathlib.Core.List.{List, [], ◌∷◌}
use Prim.Native.Nat.{ℕ, zero, suc}
use native.Mathlib.Omega.{arith}
use lib.ListN.{take, drop, get_or}
use mir.Syntax.{w8, w64}
use mir.Val.{Fits}
use Rattle.format.proofs.Numbers.{All, Byte}

-- each element is a byte, as the rule for a slice gives it
abbrev pub Bytes8 : List ℕ → Type 0
Bytes8 s = (i : ℕ) → Fits w8 (get_or s i 0)

pub bytes_all : (s : List ℕ) → Bytes8 s → All Byte s
bytes_all [] b = tt
bytes_all (x ∷ s) b = ((b 0).fits, bytes_all s (λ i. b (suc i)))

pub all_drop : (k : ℕ) (s : List ℕ) → All Byte s → All Byte (drop k s)
all_drop zero s b = b
all_drop (suc k) [] b = b
all_drop (suc k) (x ∷ s) b = all_drop k s b.1

pub all_take : (k : ℕ) (s : List ℕ) → All Byte s → All Byte (take k s)
all_take zero s b = tt
all_take (suc k) [] b = b
all_take (suc k) (x ∷ s) b = (b.0, all_take k s b.1)

-- a byte that was read, as a wider number
pub byte_fits : (s : List ℕ) (i : ℕ) → Bytes8 s → Fits w64 (get_or s i 0)
byte_fits s i b = record { fits = omega (arith, b i) }
