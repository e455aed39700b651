-- The 32 bits of a signed number, by its sign.
use mathlib.Core.Path.{◌≡◌, refl, sym, ◌∙◌, ap, subst}
use mathlib.Core.Bool.{true, false}
use Prim.Native.Nat.{suc, ◌^◌, ◌<◌}
use native.Mathlib.Omega.{arith}
use borrow.Author.Tests.{ltb-true, le-ltb}
use lib.IntN.{ℤ, pos, negsuc, nat_abs, ◌+ℤ◌}
use lib.Signed.{lt_z}
use mir.Syntax.{w32, w64}
use mir.Val.{SFits, to_z, of_z}
use mir.Facts.{to_z-of_z}
use Rattle.format.specs.Numbers.{unsigned}
use Rattle.format.proofs.Tests.{never_true}

-- a number of 32 bits, as the machine holds it, and widened
module _ (z : ℤ) (f : SFits w32 z) where
  held : to_z w32 (of_z w32 z) ≡ z
  held = to_z-of_z f

  wide : SFits w64 z
  wide = record { sfits = omega (arith, f.sfits) }

  widens : SFits w64 (to_z w32 (of_z w32 z))
  widens = subst (SFits w64) (sym held) wide

  widened : to_z w64 (of_z w64 (to_z w32 (of_z w32 z))) ≡ z
  widened = to_z-of_z widens ∙ held

-- the bits of a negative number
sum_is : (z : ℤ) → SFits w32 z → lt_z z (pos 0) ≡ true → z +ℤ pos 0x1_0000_0000 ≡ pos (of_z w32 z)
sum_is (pos n) f h = absurd (omega (arith, ltb-true n 0 h))
sum_is (negsuc n) f h = rw (le-ltb 0x1_0000_0000 (suc n) (omega (arith, f.sfits)))

bits_small : (z : ℤ) → SFits w32 z → of_z w32 z < 2 ^ 32
bits_small (pos n) f = omega (arith, f.sfits)
bits_small (negsuc n) f = omega arith

module _ (z : ℤ) (f : SFits w32 z) (h : lt_z (to_z w32 (of_z w32 z)) (pos 0) ≡ true) where
  sum : to_z w64 (of_z w64 (to_z w32 (of_z w32 z))) +ℤ pos 0x1_0000_0000 ≡ pos (of_z w32 z)
  sum = ap (λ (y : ℤ). y +ℤ pos 0x1_0000_0000) (widened z f) ∙ sum_is z f (subst (λ (y : ℤ). lt_z y (pos 0) ≡ true) (held z f) h)

  adds : SFits w64 (to_z w64 (of_z w64 (to_z w32 (of_z w32 z))) +ℤ pos 0x1_0000_0000)
  adds = subst (SFits w64) (sym sum) (record { sfits = omega (arith, bits_small z f) })

  added : to_z w64 (of_z w64 (to_z w64 (of_z w64 (to_z w32 (of_z w32 z))) +ℤ pos 0x1_0000_0000)) ≡ pos (of_z w32 z)
  added = to_z-of_z adds ∙ sum

  pub negative : nat_abs (to_z w64 (of_z w64 (to_z w64 (of_z w64 (to_z w32 (of_z w32 z))) +ℤ pos 0x1_0000_0000))) ≡ unsigned z
  unfolding unsigned
  negative = ap nat_abs added

-- and of another
other : (z : ℤ) → lt_z z (pos 0) ≡ false → nat_abs z ≡ unsigned z
unfolding unsigned
other (pos n) h = refl
other (negsuc n) h = never_true (sym h)

pub positive : (z : ℤ) → SFits w32 z → lt_z (to_z w32 (of_z w32 z)) (pos 0) ≡ false → nat_abs (to_z w32 (of_z w32 z)) ≡ unsigned z
positive z f h =
    subst (λ (y : ℤ). nat_abs y ≡ unsigned z) (sym (held z f)) (other z (subst (λ (y : ℤ). lt_z y (pos 0) ≡ false) (held z f) h))
