-- Laws of comparing two keys block by block: equal bytes in front of both don't change their order, and a block is told by its number.
use mathlib.Core.Path.{◌≡◌, refl, sym, ◌∙◌, ap, ap₂}
use mathlib.Core.List.{List, [], ◌∷◌, ◌++◌}
use Prim.Native.Nat.{ℕ, ◌+◌, ◌-◌, ◌≤◌}
use native.Mathlib.Nat.{add-sub_cancel_left}
use native.Mathlib.Omega.{arith}
use borrow.Author.Tests.{le-ltb}
use lib.ListN.{length, take, drop, length-take, length-drop, take-append-drop}
use lib.Seq.{take-take, drop-drop}
use Rattle.format.specs.Keys.{order}
use Rattle.format.specs.Numbers.{le, bytes_of}
use Rattle.format.proofs.Numbers.{All, Byte, bytes_of_le}
use Rattle.wire.specs.Leads.{lead}
use Rattle.wire.proofs.Bytes.{Bytes8, bytes_all, all_take, all_drop}
use Rattle.keys.specs.Fronts.{block_at, Front}

-- a block of a part, as the rule for `&s[i..i + w]` has it
pub block_is : (w : ℕ) (s : List ℕ) (i r : ℕ) → r ≡ lead w (take (i + w - i) (drop i s)) → r ≡ block_at w s i
unfolding lead block_at
block_is w s i r e = e ∙ ap le (rw (add-sub_cancel_left i w) (take-take w w (drop i s) (omega arith)))

pub ruleset numbers = (block_is)

-- bytes that both begin with don't count
order_behind : (p x y : List ℕ) → order (p ++ x) (p ++ y) ≡ order x y
unfolding order
order_behind [] x y = refl
order_behind (c ∷ p) x y = rw (le-ltb c c (omega arith)) (order_behind p x y)

-- as many bytes that spell the same number are the same
same_bytes : (x y : List ℕ) → length x ≡ length y → All Byte x → All Byte y → le x ≡ le y → x ≡ y
same_bytes x y l h k e = sym (bytes_of_le x h) ∙ ap₂ bytes_of l e ∙ bytes_of_le y k

-- the w bytes from i on, and what follows them
module _ (w : ℕ) (s : List ℕ) (i : ℕ) where
  block_length : i + w ≤ length s → length (take w (drop i s)) ≡ w
  block_length l = rw (length-take, length-drop) (omega arith)

  block_bytes : Bytes8 s → All Byte (take w (drop i s))
  block_bytes m = all_take w (drop i s) (all_drop i s (bytes_all s m))

  block_more : take w (drop i s) ++ drop (i + w) s ≡ drop i s
  block_more = rw (sym (drop-drop w i s)) (take-append-drop w (drop i s))

-- one block on, where both have the same
module _ (a b : List ℕ) (i : ℕ) (f : Front a b i) where
  pub front_more : (w x y : ℕ) → i + w ≤ length a → i + w ≤ length b → x ≡ block_at w a i → y ≡ block_at w b i → x ≡ y → Bytes8 a → Bytes8 b → Front a b (i + w)
  unfolding block_at
  front_more w x y h k e g q m n =
      let l = block_length w a i h ∙ sym (block_length w b i k) in
      let p : take w (drop i a) ≡ take w (drop i b) = same_bytes _ _ l (block_bytes w a i m) (block_bytes w b i n) (sym e ∙ q ∙ g) in
      let c = ap (λ (t : List ℕ). t ++ drop (i + w) a) (sym p) ∙ block_more w a i in
      record { on = sym (order_behind (take w (drop i b)) (drop (i + w) a) (drop (i + w) b)) ∙ ap₂ order c (block_more w b i) ∙ f.on; in_a = h }
