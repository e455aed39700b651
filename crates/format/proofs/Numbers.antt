-- Little-endian reading and writing undo each other, at every width.
use mathlib.Core.Path.{◌≡◌, refl, ap}
use mathlib.Core.List.{List, [], ◌∷◌, ◌++◌}
use Prim.Native.Nat.{ℕ, zero, suc, ◌+◌, ◌*◌, ◌/◌, ◌%◌, ◌^◌, ◌<◌}
use native.Mathlib.Omega.{arith}
use lib.ListN.{length}
use Rattle.format.specs.Numbers.{le, bytes_of}

-- all of a list
abbrev pub All : {A : Type 0} → (A → Type 0) → List A → Type 0
All P [] = Unit {0}
All P (x ∷ xs) = P x × All P xs

-- all of two lists that are joined is all of each
pub all_split : {A : Type 0} (P : A → Type 0) (xs ys : List A) → All P (xs ++ ys) → All P xs × All P ys
all_split P [] ys h = (tt, h)
all_split P (x ∷ xs) ys h = let r = all_split P xs ys h.1 in ((h.0, r.0), r.1)

abbrev pub Byte : ℕ → Type 0
Byte b = b < 256

pub length_bytes_of : (w n : ℕ) → length (bytes_of w n) ≡ w
unfolding bytes_of
length_bytes_of zero n = refl
length_bytes_of (suc w) n = ap suc (length_bytes_of w (n / 256))

-- writing and then reading
pub le_bytes_of : (w n : ℕ) → n < 256 ^ w → le (bytes_of w n) ≡ n
unfolding le bytes_of
le_bytes_of zero n h = omega arith
le_bytes_of (suc w) n h =
    let k : n / 256 < 256 ^ w = omega arith in
    let i : le (bytes_of w (n / 256)) ≡ n / 256 = le_bytes_of w (n / 256) k in
    omega arith

-- reading and then writing
pub bytes_of_le : (s : List ℕ) → All Byte s → bytes_of (length s) (le s) ≡ s
unfolding le bytes_of
bytes_of_le [] h = refl
bytes_of_le (b ∷ s) h =
    let l : b < 256 = h.0 in
    let m : (b + 256 * le s) % 256 ≡ b = omega arith in
    let d : (b + 256 * le s) / 256 ≡ le s = omega arith in
    rw (m, d) (ap (λ (x : List ℕ). b ∷ x) (bytes_of_le s h.1))

-- a number of bytes is below the next power
pub le_below : (s : List ℕ) → All Byte s → le s < 256 ^ length s
unfolding le
le_below [] h = omega arith
le_below (b ∷ s) h =
    let i : le s < 256 ^ length s = le_below s h.1 in
    let l : b < 256 = h.0 in
    let g : b + 256 * le s < 256 ^ suc (length s) = omega arith in
    g
