-- Laws of text that is put into a buffer: pieces join, and what is still to be put, put from here, gives the whole.
use mathlib.Core.Path.{◌≡◌, refl, sym, ◌∙◌, ap, ap₂}
use mathlib.Core.Bool.{Bool, true, false, cond}
use mathlib.Core.List.{List, [], ◌∷◌, ◌++◌}
use Prim.Native.Nat.{ℕ, zero, suc, ◌+◌, ◌-◌, ◌/◌, ◌%◌, ◌^◌, ◌≤◌, ◌<◌}
use native.Mathlib.Nat.{add-zero}
use native.Mathlib.Numerals.{add-one}
use native.Mathlib.Omega.{arith}
use borrow.Author.Tests.{lt-ltb, le-ltb, ltb-true}
use lib.Dec.{ltb}
use lib.IntN.{ℤ, pos, negsuc}
use lib.Signed.{lt_z}
use lib.ListN.{length, get_or, take, drop, set, length-set, length-append, drop_of_length-le}
use lib.Seq.{drop-cons, sets-eq, take-append_seam}
use mir.Syntax.{w32, w64}
use mir.Val.{Fits, SFits, to_z, of_z}
use mir.Facts.{to_z-of_z}
use Rattle.io.specs.Digits.{hex_digit_ascii, last_digits, IsDigitCount}
use Rattle.format.specs.Tests.{pick}
use Rattle.format.specs.Numbers.{unsigned}
use Rattle.format.proofs.Tests.{never_true}
use Rattle.writer.specs.Writes.{wrote}
use Rattle.text.specs.Spots.{Spot, spot, lay_byte, lay}
use Rattle.text.specs.Spelled.{digit, hex_byte, hex, dash, hex_or_dash, decimal_in, decimal, signed_decimal}

-- two pieces, one after the other, are one
pub lay_append : (s : Spot) (a b : List ℕ) → lay (lay s a) b ≡ lay s (a ++ b)
unfolding lay
lay_append s [] b = refl
lay_append s (x ∷ a) b = lay_append (lay_byte s x) a b

-- the same, where the buffer between them is known by equations
pub lay_then : (s t u : Spot) (a b : List ℕ) → t ≡ lay s a → u ≡ lay t b → u ≡ lay s (a ++ b)
lay_then s t u a b e f = f ∙ ap (λ (x : Spot). lay x b) e ∙ lay_append s a b

-- where there is room, the text stands in the buffer, and the place is behind it
pub lay_whole : (at : ℕ) (D S : List ℕ) → at + length S ≤ length D → lay (spot at D) S ≡ spot (at + length S) (wrote D at S)
unfolding lay lay_byte wrote
lay_whole at D [] h = ap (λ (n : ℕ). spot n D) (sym (add-zero at))
lay_whole at D (b ∷ S) h =
    let q : at < length D = omega arith in
    let l : at + 1 + length S ≤ length (set D at b) = rw (length-set D at b) (omega arith) in
    let e : at + 1 + length S ≡ at + suc (length S) = omega arith in
    rw (lt-ltb at (length D) q) (lay_whole (at + 1) (set D at b) S l ∙ ap₂ (λ (n m : ℕ). spot n (wrote (set D at b) m S)) e (add-one at))

-- so at the front of a buffer of n bytes or more, which then begins with a text of at most n
module _ (n r : ℕ) (D D' S : List ℕ) (is : spot r D' ≡ lay (spot 0 D) S) (fits : length S ≤ n) (h : n ≤ length D) where
  front_is : (r ≡ length S) × (D' ≡ S ++ drop (0 + length S) D)
  unfolding wrote
  front_is =
      let k : 0 + length S ≤ length D = omega arith in
      let e : spot r D' ≡ spot (0 + length S) (wrote D 0 S) = is ∙ lay_whole 0 D S k in
      let m : r ≡ 0 + length S = cc in
      let d : D' ≡ wrote D 0 S = cc in
      (omega arith, d ∙ sets-eq S D 0 k)

  pub front_ends : r ≤ length D'
  front_ends = rw (front_is.0, front_is.1) (simp length-append (omega arith))

  pub front_whole : take r D' ≡ S
  front_whole = rw (front_is.0, front_is.1) (take-append_seam S (drop (0 + length S) D))

pub ruleset fronts = (front_ends, front_whole)

-- both ways of `put_byte`
module _ (at : ℕ) (D : List ℕ) (b : ℕ) where
  pub byte_past : length D ≤ at → spot at D ≡ lay_byte (spot at D) b
  unfolding lay_byte
  byte_past h = sym (rw (le-ltb at (length D) h))

  pub byte_put : at < length D → spot (at + 1) (set D at b) ≡ lay_byte (spot at D) b
  unfolding lay_byte
  byte_put h = sym (rw (lt-ltb at (length D) h))

pub ruleset bytes_put = (byte_past, byte_put)

-- what is left of a text, laid from here, gives the whole
pub record Laying (at : ℕ) (D₀ S : List ℕ) (to : ℕ) (D : List ℕ) (j : ℕ) : Type 0 where
  pub long : length D ≡ length D₀
  pub is : lay (spot to D) (drop j S) ≡ lay (spot at D₀) S

module _ (at : ℕ) (D₀ S : List ℕ) (to : ℕ) (D : List ℕ) (j : ℕ) (k : Laying at D₀ S to D j) where
  pub lay_more : (to' : ℕ) (D' : List ℕ) → j < length S → length D' ≡ length D → spot to' D' ≡ lay_byte (spot to D) (get_or S j 0)
      → Laying at D₀ S to' D' (j + 1)
  unfolding lay
  lay_more to' D' h l e =
      record {
        long = l ∙ k.long;
        is = rw (add-one j) (ap (λ (s : Spot). lay s (drop (suc j) S)) e ∙ sym (ap (lay (spot to D)) (drop-cons S j 0 h)) ∙ k.is);
      }

  pub lay_done : length S ≤ j → spot to D ≡ lay (spot at D₀) S
  unfolding lay
  lay_done h = sym (ap (lay (spot to D)) (drop_of_length-le S h)) ∙ k.is

pub ruleset lays = (lay_more, lay_done)

-- the same of bytes in hex
pub record Hexing (at : ℕ) (D₀ S : List ℕ) (to : ℕ) (D : List ℕ) (j : ℕ) : Type 0 where
  pub long : length D ≡ length D₀
  pub is : lay (spot to D) (hex (drop j S)) ≡ lay (spot at D₀) (hex S)

module _ (at : ℕ) (D₀ S : List ℕ) (to : ℕ) (D : List ℕ) (j : ℕ) (k : Hexing at D₀ S to D j) where
  pub hex_more : (to' : ℕ) (D' : List ℕ) → j < length S → length D' ≡ length D → spot to' D' ≡ lay (spot to D) (hex_byte (get_or S j 0))
      → Hexing at D₀ S to' D' (j + 1)
  unfolding hex
  hex_more to' D' h l e =
      record {
        long = l ∙ k.long;
        is =
            rw (add-one j)
            (ap (λ (s : Spot). lay s (hex (drop (suc j) S))) e
            ∙ lay_append (spot to D) (hex_byte (get_or S j 0)) (hex (drop (suc j) S))
            ∙ sym (ap (λ (l : List ℕ). lay (spot to D) (hex l)) (drop-cons S j 0 h))
            ∙ k.is);
      }

  pub hex_done : length S ≤ j → spot to D ≡ lay (spot at D₀) (hex S)
  unfolding lay hex
  hex_done h = sym (ap (λ (l : List ℕ). lay (spot to D) (hex l)) (drop_of_length-le S h)) ∙ k.is

pub ruleset hexes = (hex_more, hex_done)

-- a byte's two digits
pub hex_byte_lem : (s t u : Spot) (b d e : ℕ) → d ≡ digit (b / 16) → e ≡ digit (b % 16) → t ≡ lay_byte s d → u ≡ lay_byte t e → u ≡ lay s (hex_byte b)
unfolding lay hex_byte
hex_byte_lem s t u b d e p q f g = g ∙ ap (λ (x : Spot). lay_byte x e) f ∙ rw (p, q)

-- none, or some
pub dash_none : (s t : Spot) (S : List ℕ) → length S ≡ 0 → t ≡ lay_byte s dash → t ≡ lay s (hex_or_dash S)
unfolding lay hex_or_dash
dash_none s t [] h e = e
dash_none s t (x ∷ S) h e = absurd (omega arith)

pub dash_some : (s t : Spot) (S : List ℕ) → (length S ≡ 0 → ⊥) → t ≡ lay s (hex S) → t ≡ lay s (hex_or_dash S)
unfolding hex_or_dash
dash_some s t [] h e = absurd (h refl)
dash_some s t (x ∷ S) h e = e

pub ruleset dashes = (dash_none, dash_some)

-- digits that were made elsewhere
digit_glyph : (d : ℕ) → digit d ≡ hex_digit_ascii d
unfolding digit
digit_glyph d = both (ltb d 10) (48 + d) (87 + d) where
  both : (t : Bool) (a b : ℕ) → pick t a b ≡ cond t a b
  both true a b = refl
  both false a b = refl

tens : (k : ℕ) → 0 < 10 ^ k
tens zero = omega arith
tens (suc k) = omega (arith, tens k)

digits_are : (w n k : ℕ) → IsDigitCount 10 1 n k → n < 10 ^ suc w → last_digits 10 k n ≡ decimal_in (suc w) n
unfolding decimal_in
digits_are w n zero f h = absurd (omega (arith, f.0))
digits_are w n (suc zero) f h =
    let q : n < 10 = omega (arith, f.1) in
    let m : n % 10 ≡ n = omega arith in
    rw (lt-ltb n 10 q, m) (ap (λ (x : ℕ). x ∷ []) (sym (digit_glyph n)))
digits_are zero n (suc (suc k)) f h =
    let one : suc (suc k) - 1 ≡ suc k = omega arith in
    let p : 10 ^ suc k ≤ n = rw one at (f.2 (omega arith)) in
    absurd (omega (arith, tens k))
digits_are (suc w) n (suc (suc k)) f h =
    let one : suc (suc k) - 1 ≡ suc k = omega arith in
    let p : 10 ^ suc k ≤ n = rw one at (f.2 (omega arith)) in
    let q : 10 ≤ n = omega (arith, tens k) in
    let a : n / 10 < 10 ^ suc k = omega (arith, f.1) in
    let two : suc k - 1 ≡ k = omega arith in
    let b : 10 ^ (suc k - 1) ≤ n / 10 = rw two (omega arith) in
    rw (le-ltb n 10 q)
    (ap₂ (λ (l : List ℕ) (x : ℕ). l ++ (x ∷ [])) (digits_are w (n / 10) (suc k) (omega arith, a, λ l. b) (omega arith)) (sym (digit_glyph (n % 10))))

pub spelled : (s t : Spot) (n k : ℕ) (D : List ℕ) → IsDigitCount 10 1 n k → Fits w64 n → take k D ≡ last_digits 10 k n → t ≡ lay s (take k D)
    → t ≡ lay s (decimal n)
unfolding decimal
spelled s t n k D f h d e =
    let b : n < 10 ^ 20 = omega (arith, h.fits) in
    e ∙ ap (lay s) (d ∙ digits_are 19 n k f b)

-- a sign
pub bits_most : (z : ℤ) (n : ℕ) → SFits w32 z → n ≡ unsigned z → n ≤ 0x1_0000_0000
unfolding unsigned
bits_most (pos m) n f q = omega (arith, f.sfits)
bits_most (negsuc m) n f q = omega arith

-- by the number as the machine holds it
sign_none_by : (z : ℤ) (n : ℕ) → n ≡ unsigned z → lt_z z (pos 0) ≡ false → decimal n ≡ signed_decimal z
unfolding unsigned signed_decimal
sign_none_by (pos m) n q h = ap decimal q
sign_none_by (negsuc m) n q h = never_true (sym h)

sign_minus_by : (z : ℤ) (n : ℕ) → SFits w32 z → n ≡ unsigned z → lt_z z (pos 0) ≡ true → dash ∷ decimal (0x1_0000_0000 - n) ≡ signed_decimal z
unfolding unsigned signed_decimal
sign_minus_by (pos k) n f q h = absurd (omega (arith, ltb-true k 0 h))
sign_minus_by (negsuc k) n f q h =
    let r : 0x1_0000_0000 - n ≡ suc k = omega (arith, f.sfits) in
    ap (λ (x : ℕ). dash ∷ decimal x) r

module _ (s : Spot) (z y : ℤ) (n : ℕ) (f : SFits w32 z) (q : n ≡ unsigned y) (p : y ≡ to_z w32 (of_z w32 z)) where
  held : y ≡ z
  held = p ∙ to_z-of_z f

  pub sign_none : (t : Spot) → lt_z y (pos 0) ≡ false → t ≡ lay s (decimal n) → t ≡ lay s (signed_decimal z)
  sign_none t h e = e ∙ ap (lay s) (sign_none_by z n (q ∙ ap unsigned held) (sym (ap (λ (x : ℤ). lt_z x (pos 0)) held) ∙ h))

  pub sign_minus : (t u : Spot) → lt_z y (pos 0) ≡ true → t ≡ lay_byte s dash → u ≡ lay t (decimal (0x1_0000_0000 - n)) → u ≡ lay s (signed_decimal z)
  unfolding lay
  sign_minus t u h d e =
      e ∙ ap (λ (x : Spot). lay x (decimal (0x1_0000_0000 - n))) d
      ∙ ap (lay s) (sign_minus_by z n f (q ∙ ap unsigned held) (sym (ap (λ (x : ℤ). lt_z x (pos 0)) held) ∙ h))

pub ruleset signs = (bits_most, sign_none, sign_minus)
