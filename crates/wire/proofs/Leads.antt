-- Laws of little-endian numbers: read from the back, byte by byte, at every width; and of the number at the front.
use mathlib.Core.Path.{◌≡◌, sym, ◌∙◌, ap}
use mathlib.Core.List.{List, reverse}
use Prim.Native.Nat.{ℕ, suc, ◌+◌, ◌*◌, ◌-◌, ◌^◌, ◌≤◌, ◌<◌}
use native.Mathlib.Nat.{lt_of_lt_of_le, pow-le-pow_right, sub-zero}
use native.Mathlib.Omega.{arith}
use lib.ListN.{length, take, drop, get_or, length-take, length-drop}
use lib.Seq.{drop-cons, drop-length, take_all}
use mir.Syntax.{Width, w64}
use mir.Val.{Fits, bits}
use Rattle.std.proofs.lemmas.List.{get_or-reverse, length-reverse}
use Rattle.std.proofs.lemmas.Grind.{get_or_default_zero}
use Rattle.format.specs.Numbers.{le}
use Rattle.format.proofs.Numbers.{All, Byte, le_below}
use Rattle.wire.specs.Leads.{lead}
use Rattle.wire.proofs.Bytes.{Bytes8, bytes_all, all_drop, all_take}

-- a number of at most n bytes is below 256 ^ n
pub le_most : (n : ℕ) (s : List ℕ) → length s ≤ n → All Byte s → le s < 256 ^ n
le_most n s h b = lt_of_lt_of_le (le_below s b) (pow-le-pow_right (omega arith) h)

le_at : (s : List ℕ) (i : ℕ) → i < length s → le (drop i s) ≡ get_or s i 0 + 256 * le (drop (suc i) s)
unfolding le
le_at s i h = rw (drop-cons s i 0)

-- one byte more of at most eight, read from the back: the i last bytes spell v, and the next is b
module _ (s : List ℕ) (i v b : ℕ) (is : v ≡ le (drop (length s - i) s)) (most : length s ≤ 8) (bytes : Bytes8 s)
    (t : (i < length (reverse s)) × (b ≡ get_or (reverse s) i b)) where
  pub le_in : i < length s
  le_in = omega (arith, length-reverse s, t.0)

  le_byte : b ≡ get_or s (length s - (i + 1)) 0
  le_byte =
      let q : length s - 1 - i ≡ length s - (i + 1) = omega arith in
      let h : length s - (i + 1) < length s = omega (arith, le_in) in
      t.1 ∙ get_or-reverse s i b le_in ∙ ap (λ (k : ℕ). get_or s k b) q ∙ get_or_default_zero s (length s - (i + 1)) b h

  le_room : v < 256 ^ 7
  le_room = rw is (le_most 7 (drop (length s - i) s) (rw length-drop (omega (arith, le_in))) (all_drop (length s - i) s (bytes_all s bytes)))

  pub le_mul : Fits w64 (v * 256)
  le_mul = record { fits = omega (arith, le_room) }

  pub le_add : Fits w64 (v * 256 + b)
  le_add = record { fits = omega (arith, le_room, le_byte, bytes (length s - (i + 1))) }

  pub le_more : v * 256 + b ≡ le (drop (length s - (i + 1)) s)
  le_more =
      let h = le_in in
      let q : length s - i ≡ suc (length s - (i + 1)) = omega arith in
      let f : v ≡ le (drop (suc (length s - (i + 1))) s) = rw q at is in
      omega (arith, le_at s (length s - (i + 1)) (omega arith), le_byte)

pub le_none : (s : List ℕ) → 0 ≡ le (drop (length s - 0) s)
unfolding le
le_none s = rw (sub-zero, drop-length)

-- the front of a slice, as the rule for `&s[..w]` has it
pub front_most : (w k : ℕ) (s : List ℕ) → w ≤ k → length (take w s) ≤ k
front_most w k s h = rw length-take (omega arith)

pub front_length : (w : ℕ) (s : List ℕ) → w ≤ length s → w ≡ length (take w s)
front_length w s h = rw length-take (omega arith)

pub lead_front : (w r : ℕ) (s : List ℕ) → r ≡ le (take w s) → r ≡ lead w s
unfolding lead
lead_front w r s e = e

-- no more bytes than the width are all of them
lead_all : (w : ℕ) (s : List ℕ) → length s ≤ w → lead w s ≡ le s
unfolding lead
lead_all w s h = ap le (take_all w s h)

pub lead_short : (w r : ℕ) (s : List ℕ) → length s < w → r ≡ le s → r ≡ lead w s
lead_short w r s h e = e ∙ sym (lead_all w s (omega arith))

-- a number of w bytes is below 256 ^ w, so it fits as many bits
pub lead_below : (s : List ℕ) (w : ℕ) → Bytes8 s → lead w s < 256 ^ w
unfolding lead
lead_below s w b = le_most w (take w s) (front_most w w s (omega arith)) (all_take w s (bytes_all s b))

pub lead_fits : (s : List ℕ) (k : Width) (w r : ℕ) → Bytes8 s → r ≡ lead w s → 256 ^ w ≡ 2 ^ bits k → Fits k r
lead_fits s k w r b e q = let h = lead_below s w b in record { fits = rw (e, ← q) h }

pub ruleset leads = (front_most, front_length, lead_front, lead_short, lead_fits)
