-- Laws of comparing two keys byte by byte: the order from a place on is the order of the whole as long as the bytes before it are equal.
use Rattle.std.specs.Ordering.{is_eq}
use mathlib.Core.Path.{◌≡◌, refl, sym, ap}
use mathlib.Core.Bool.{true, false}
use mathlib.Core.List.{List}
use Prim.Native.Nat.{ℕ, zero, suc, ◌+◌, ◌-◌, ◌≤◌, ◌<◌}
use native.Mathlib.Omega.{arith}
use native.Mathlib.Numerals.{add-one}
use borrow.Author.Tests.{lt-ltb, le-ltb}
use lib.ListN.{length, drop, get_or, drop_of_length-le}
use lib.Seq.{drop-cons}
use Rattle.format.specs.Keys.{order, same}
use Rattle.format.proofs.Keys.{same_is}
use Rattle.keys.specs.Fronts.{Front}
use Rattle.std.specs.declared.cmp.Ordering.{Ordering}
use Rattle.std.specs.declared.cmp.Ordering.TheVariants.{Less, Equal, Greater}

-- from i on the order is that of the whole
abbrev pub On : List ℕ → List ℕ → ℕ → Type 0
On a b i = order (drop i a) (drop i b) ≡ order a b

same_by_order : (a b : List ℕ) → Equal ≡ order a b → same a b ≡ true
unfolding same
same_by_order a b e = sym (ap is_eq e)

pub on_front : (a b : List ℕ) (i : ℕ) → Front a b i → On a b i
on_front a b i f = f.on

module _ (a b : List ℕ) (i : ℕ) (on : On a b i) where
  pub is_same : length a ≤ i → length b ≤ i → Equal ≡ order a b
  unfolding order
  is_same h k = rw (drop_of_length-le a h, drop_of_length-le b k) at on

  pub is_prefix : length a ≤ i → i < length b → Less ≡ order a b
  unfolding order
  is_prefix h k = rw (drop_of_length-le a h, drop-cons b i 0 k) at on

  pub is_longer : i < length a → length b ≤ i → Greater ≡ order a b
  unfolding order
  is_longer h k = rw (drop_of_length-le b k, drop-cons a i 0 h) at on

  pub is_below : i < length a → i < length b → get_or a i 0 < get_or b i 0 → Less ≡ order a b
  unfolding order
  is_below h k l = rw (drop-cons a i 0 h, drop-cons b i 0 k, lt-ltb (get_or a i 0) (get_or b i 0) l) at on

  pub is_above : i < length a → i < length b → get_or b i 0 < get_or a i 0 → Greater ≡ order a b
  unfolding order
  is_above h k l =
      let m : get_or b i 0 ≤ get_or a i 0 = omega arith in
      rw (drop-cons a i 0 h, drop-cons b i 0 k, le-ltb (get_or a i 0) (get_or b i 0) m, lt-ltb (get_or b i 0) (get_or a i 0) l) at on

  pub on_more : i < length a → i < length b → get_or b i 0 ≤ get_or a i 0 → get_or a i 0 ≤ get_or b i 0 → On a b (i + 1)
  unfolding order
  on_more h k l m =
      rw add-one (rw (drop-cons a i 0 h, drop-cons b i 0 k, le-ltb (get_or a i 0) (get_or b i 0) l, le-ltb (get_or b i 0) (get_or a i 0) m) at on)

  -- the second has ended, and the first is longer
  pub is_after : i ≤ length a → length b ≤ i → length b < length a → Greater ≡ order a b
  is_after h k l = by (length a - i) refl
    where
      by : (n : ℕ) → length a - i ≡ n → Greater ≡ order a b
      by zero q =
          let m : length a ≤ i = omega arith in
          let f : a ≡ b = same_is a b (same_by_order a b (is_same m k)) in
          absurd (omega (arith, ap length f))
      by (suc n) q = is_longer (omega arith) k

pub ruleset orders = (on_front, is_same, is_prefix, is_after, is_below, is_above, on_more)

-- and from the first byte on
module _ (a b : List ℕ) where
  pub first_none : (length b ≡ 0 → ⊥) → length a ≡ 0 → Less ≡ order a b
  first_none k h = is_prefix a b 0 refl (omega arith) (omega arith)

  module _ (k : length b ≡ 0 → ⊥) (h : length a ≡ 0 → ⊥) where
    pub first_below : get_or a 0 0 < get_or b 0 0 → Less ≡ order a b
    first_below l = is_below a b 0 refl (omega arith) (omega arith) l

    pub first_above : get_or b 0 0 < get_or a 0 0 → Greater ≡ order a b
    first_above l = is_above a b 0 refl (omega arith) (omega arith) l

pub ruleset firsts = (first_none, first_below, first_above)
