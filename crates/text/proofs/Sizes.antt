-- How long texts are: two digits for each byte, at most 20 for each number.
use mathlib.Core.Path.{◌≡◌, refl}
use mathlib.Core.List.{List, [], ◌∷◌}
use Prim.Native.Nat.{ℕ, zero, suc, ◌+◌, ◌*◌, ◌/◌, ◌^◌, ◌≤◌, ◌<◌}
use native.Mathlib.Omega.{arith}
use borrow.Author.Tests.{lt-ltb}
use lib.Dec.{ltb}
use lib.IntN.{ℤ, pos, negsuc}
use lib.ListN.{length, length-append}
use Rattle.format.proofs.Tests.{pick_by}
use Rattle.text.specs.Spelled.{hex_byte, hex, hex_or_dash, decimal_in, decimal, signed_decimal}

-- bytes
hex_length : (S : List ℕ) → length (hex S) ≡ 2 * length S
unfolding hex hex_byte
hex_length [] = refl
hex_length (b ∷ S) = omega (arith, hex_length S)

pub hex_most : (S : List ℕ) → length (hex_or_dash S) ≤ 2 * length S + 1
unfolding hex_or_dash
hex_most [] = omega arith
hex_most (b ∷ S) = omega (arith, hex_length (b ∷ S))

-- a number, and one that has at most k + 1 digits
decimal_in_lem : (w n : ℕ) → length (decimal_in w n) ≤ w
unfolding decimal_in
decimal_in_lem zero n = omega arith
decimal_in_lem (suc w) n =
    pick_by (λ (l : List ℕ). length l ≤ suc w) (ltb n 10) _ _ (λ h. omega arith) (λ h. simp length-append (omega (arith, decimal_in_lem w (n / 10))))

pub decimal_most : (n : ℕ) → length (decimal n) ≤ 20
unfolding decimal
decimal_most n = decimal_in_lem 20 n

few_in : (w k n : ℕ) → n < 10 ^ suc k → length (decimal_in w n) ≤ suc k
unfolding decimal_in
few_in zero k n h = omega arith
few_in (suc w) zero n h = rw (lt-ltb n 10 h) (omega arith)
few_in (suc w) (suc k) n h =
    let q : n / 10 < 10 ^ suc k = omega arith in
    pick_by (λ (l : List ℕ). length l ≤ suc (suc k)) (ltb n 10) _ _ (λ h. omega arith) (λ h. simp length-append (omega (arith, few_in w k (n / 10) q)))

pub decimal_few : (k n : ℕ) → n < 10 ^ suc k → length (decimal n) ≤ suc k
unfolding decimal
decimal_few k n h = few_in 20 k n h

-- a number that may be negative
pub signed_most : (z : ℤ) → length (signed_decimal z) ≤ 21
unfolding signed_decimal
signed_most (pos n) = omega (arith, decimal_most n)
signed_most (negsuc n) = omega (arith, decimal_most (suc n))
