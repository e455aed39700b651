-- What may be absent, as a number, by the case.
use mathlib.Core.Path.{◌≡◌, sym, ap}
use Prim.Native.Nat.{ℕ}
use Rattle.format.specs.Locks.{or_zero}
use Rattle.format.specs.Answers.{Maybe}
use Rattle.std.specs.Prelude.{Some, None}

module _ (m : Maybe) where
  pub zero_absent : m ≡ None → 0 ≡ or_zero m
  zero_absent h = sym (ap or_zero h)

  pub zero_present : (n : ℕ) → m ≡ Some n → n ≡ or_zero m
  zero_present n h = sym (ap or_zero h)

pub ruleset maybes = (zero_absent, zero_present)
