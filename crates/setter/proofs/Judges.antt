-- Laws of one assignment, one for each way through the functions that judge it.
use mathlib.Core.Path.{◌≡◌, refl, sym, ◌∙◌, ap}
use mathlib.Core.Bool.{Bool, true, false}
use mathlib.Core.List.{List}
use Prim.Native.Nat.{ℕ, ◌+◌, ◌-◌, ◌≤◌, ◌<◌}
use native.Mathlib.Nat.{add-sub_cancel_left}
use native.Mathlib.Omega.{arith}
use borrow.Author.Tests.{lt-ltb, le-ltb, le-leb, lt-leb, leb-true, leb-false}
use lib.Dec.{leb, ltb}
use lib.ListN.{length, take, drop}
use Rattle.format.specs.Scripts.{script_in, taproot, allowed}
use Rattle.format.specs.declared.Assignment.{Assignment}
use Rattle.setter.specs.Records.{lies, sound}

module _ (buffer : List ℕ) (a : Assignment) where
  pub lies_by : a.start ≤ length buffer → leb a.len (length buffer - a.start) ≡ lies buffer a
  unfolding lies
  lies_by h = by (leb a.len (length buffer - a.start)) refl
    where
      by : (b : Bool) → leb a.len (length buffer - a.start) ≡ b → b ≡ leb (a.start + a.len) (length buffer)
      by true q = sym (le-leb (a.start + a.len) (length buffer) (omega (arith, leb-true a.len (length buffer - a.start) q)))
      by false q = sym (lt-leb (a.start + a.len) (length buffer) (omega (arith, leb-false a.len (length buffer - a.start) q)))

  pub lies_not : length buffer < a.start → leb a.start (length buffer) ≡ lies buffer a
  unfolding lies
  lies_not h = lt-leb a.start (length buffer) h ∙ sym (lt-leb (a.start + a.len) (length buffer) (omega arith))

  pub script_is : take (a.start + a.len - a.start) (drop a.start buffer) ≡ script_in buffer a
  unfolding script_in
  script_is = ap (λ (n : ℕ). take n (drop a.start buffer)) (add-sub_cancel_left a.start a.len)

  module _ (b : Bool) (is : b ≡ lies buffer a) where
    pub lies_in : b ≡ true → a.start + a.len ≤ length buffer
    unfolding lies
    lies_in q = leb-true (a.start + a.len) (length buffer) (sym is ∙ q)

    pub sound_not : b ≡ false → b ≡ sound buffer a
    unfolding sound
    sound_not q = q ∙ rw (sym is ∙ q)

    pub sound_by : b ≡ true → (s : List ℕ) → s ≡ script_in buffer a → (r : Bool) → r ≡ taproot s → r ≡ sound buffer a
    unfolding sound
    sound_by q s e r k = k ∙ rw (sym is ∙ q, e)

pub ruleset scripts_lie = (lies_by, lies_not)

pub ruleset sounds = (lies_in, sound_not, sound_by)

module _ (n : ℕ) (buffer : List ℕ) (a : Assignment) where
  pub allowed_not : n ≤ a.output → ltb a.output n ≡ allowed n buffer a
  unfolding allowed
  allowed_not h = rw (le-ltb a.output n h)

  pub allowed_by : a.output < n → (r : Bool) → r ≡ sound buffer a → r ≡ allowed n buffer a
  unfolding allowed sound lies
  allowed_by h r e = rw (lt-ltb a.output n h) e

pub ruleset alloweds = (allowed_not, allowed_by)
