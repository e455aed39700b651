-- The writers' loops, and the shortest spelling by the number's size.
use mathlib.Core.Path.{◌≡◌, sym, ◌∙◌, ap}
use mathlib.Core.List.{List, [], ◌∷◌}
use Prim.Native.Nat.{ℕ, suc, ◌+◌, ◌-◌, ◌^◌, ◌/◌, ◌%◌, ◌≤◌, ◌<◌}
use native.Mathlib.Numerals.{add-one}
use native.Mathlib.Omega.{arith}
use borrow.Author.Tests.{lt-ltb, le-ltb}
use lib.Dec.{ltb}
use lib.ListN.{length, get_or, drop, set, length-set, drop_of_length-le}
use lib.Seq.{sets, drop-cons}
use mir.Syntax.{w64}
use mir.Val.{Fits}
use Rattle.format.specs.Numbers.{bytes_of}
use Rattle.format.specs.Compact.{shortest}
use Rattle.format.proofs.Numbers.{length_bytes_of}
use Rattle.format.proofs.Tests.{pick_by}
use Rattle.writer.specs.Writes.{wrote, size_length}
use Rattle.writer.proofs.Writes.{wrote_long}

-- what is still to be written, written from here, gives the whole
pub record Putting (B₀ : List ℕ) (at x w : ℕ) (B : List ℕ) (y j : ℕ) : Type 0 where
  pub long : length B ≡ length B₀
  pub is : sets B (at + j) (bytes_of (w - j) y) ≡ sets B₀ at (bytes_of w x)

module _ (B₀ : List ℕ) (at x w : ℕ) (B : List ℕ) (y j : ℕ) (k : Putting B₀ at x w B y j) where
  pub put_more : j < w → Putting B₀ at x w (set B (at + j) (y % 256)) (y / 256) (j + 1)
  unfolding bytes_of
  put_more h =
      let q : w - j ≡ suc (w - (j + 1)) = omega arith in
      let p : at + (j + 1) ≡ suc (at + j) = omega arith in
      record { long = length-set B (at + j) (y % 256) ∙ k.long; is = rw p (sym (ap (λ (n : ℕ). sets B (at + j) (bytes_of n y)) q) ∙ k.is) }

  pub put_done : w ≤ j → B ≡ wrote B₀ at (bytes_of w x)
  unfolding bytes_of wrote
  put_done h = let q : w - j ≡ 0 = omega arith in sym (ap (λ (n : ℕ). sets B (at + j) (bytes_of n y)) q) ∙ k.is

pub ruleset puts = (put_more, put_done)

-- what is still to be copied, copied from here, gives the whole
pub record Copying (D₀ : List ℕ) (at : ℕ) (S D : List ℕ) (j : ℕ) : Type 0 where
  pub long : length D ≡ length D₀
  pub is : sets D (at + j) (drop j S) ≡ sets D₀ at S

module _ (D₀ : List ℕ) (at : ℕ) (S D : List ℕ) (j : ℕ) (k : Copying D₀ at S D j) where
  pub copy_more : j < length S → Copying D₀ at S (set D (at + j) (get_or S j 0)) (j + 1)
  copy_more h =
      let p : at + (j + 1) ≡ suc (at + j) = omega arith in
      record {
        long = length-set D (at + j) (get_or S j 0) ∙ k.long;
        is = rw (p, add-one j) (sym (ap (λ (l : List ℕ). sets D (at + j) l) (drop-cons S j 0 h)) ∙ k.is);
      }

  pub copy_done : length S ≤ j → D ≡ wrote D₀ at S
  unfolding wrote
  copy_done h = sym (ap (λ (l : List ℕ). sets D (at + j) l) (drop_of_length-le S h)) ∙ k.is

pub ruleset copies = (copy_more, copy_done)

-- a byte and then more
module _ (B : List ℕ) (at w : ℕ) (h : at + (1 + w) ≤ length B) where
  pub tag_in : at < length B
  tag_in = omega arith

  pub tag_fits : length B < 2 ^ 64 → Fits w64 (at + 1)
  tag_fits g = record { fits = omega arith }

  pub tag_room : (tag : ℕ) → at + 1 + w ≤ length (set B at tag)
  tag_room tag = rw (length-set B at tag) (omega arith)

pub tag_is : (B B₁ : List ℕ) (at tag : ℕ) (xs : List ℕ) → B₁ ≡ wrote (set B at tag) (at + 1) xs → B₁ ≡ wrote B at (tag ∷ xs)
unfolding wrote
tag_is B B₁ at tag xs e = e ∙ rw (add-one at)

pub tag_long : (B B₁ : List ℕ) (at tag i : ℕ) (xs : List ℕ) → B₁ ≡ wrote (set B at tag) i xs → length B₁ ≡ length B
tag_long B B₁ at tag i xs e = wrote_long (set B at tag) B₁ i xs e ∙ length-set B at tag

pub ruleset tagged = (tag_in, tag_fits, tag_room, tag_is, tag_long)

-- the shortest spelling, by the number's size
module _ (n : ℕ) where
  pub short_1 : n < 0xfd → shortest n ≡ bytes_of 1 n
  unfolding shortest bytes_of
  short_1 h = let q : n ≡ n % 256 = omega arith in rw (lt-ltb n 0xfd h) (ap (λ (k : ℕ). k ∷ []) q)

  pub short_3 : 0xfd ≤ n → n < 0x1_0000 → shortest n ≡ 0xfd ∷ bytes_of 2 n
  unfolding shortest
  short_3 h k = rw (le-ltb n 0xfd h, lt-ltb n 0x1_0000 k)

  pub short_5 : 0xfd ≤ n → 0x1_0000 ≤ n → n < 0x1_0000_0000 → shortest n ≡ 0xfe ∷ bytes_of 4 n
  unfolding shortest
  short_5 h k l = rw (le-ltb n 0xfd h, le-ltb n 0x1_0000 k, lt-ltb n 0x1_0000_0000 l)

  pub short_9 : 0xfd ≤ n → 0x1_0000 ≤ n → 0x1_0000_0000 ≤ n → shortest n ≡ 0xff ∷ bytes_of 8 n
  unfolding shortest
  short_9 h k l = rw (le-ltb n 0xfd h, le-ltb n 0x1_0000 k, le-ltb n 0x1_0000_0000 l)

  pub size_1 : n < 0xfd → 1 ≡ size_length n
  unfolding size_length
  size_1 h = sym (ap length (short_1 h) ∙ length_bytes_of 1 n)

  pub size_3 : 0xfd ≤ n → n < 0x1_0000 → 3 ≡ size_length n
  unfolding size_length
  size_3 h k = sym (ap length (short_3 h k) ∙ ap suc (length_bytes_of 2 n))

  pub size_5 : 0xfd ≤ n → 0x1_0000 ≤ n → n < 0x1_0000_0000 → 5 ≡ size_length n
  unfolding size_length
  size_5 h k l = sym (ap length (short_5 h k l) ∙ ap suc (length_bytes_of 4 n))

  pub size_9 : 0xfd ≤ n → 0x1_0000 ≤ n → 0x1_0000_0000 ≤ n → 9 ≡ size_length n
  unfolding size_length
  size_9 h k l = sym (ap length (short_9 h k l) ∙ ap suc (length_bytes_of 8 n))

pub ruleset sizes = (size_1, size_3, size_5, size_9)

-- no spelling takes more than nine bytes
pub size_most : (n : ℕ) → size_length n ≤ 9
unfolding size_length shortest
size_most n =
    pick_by (λ (s : List ℕ). length s ≤ 9) (ltb n 0xfd) _ _ (λ q. omega arith)
    (λ q. pick_by (λ (s : List ℕ). length s ≤ 9) (ltb n 0x1_0000) _ _ (λ t. omega (arith, length_bytes_of 2 n))
    (λ t. pick_by (λ (s : List ℕ). length s ≤ 9) (ltb n 0x1_0000_0000) _ _ (λ v. omega (arith, length_bytes_of 4 n)) (λ v. omega (arith, length_bytes_of 8 n))))

-- and written
module _ (B B₁ : List ℕ) (at n : ℕ) where
  pub wrote_1 : n < 0xfd → B₁ ≡ wrote B at (bytes_of 1 n) → B₁ ≡ wrote B at (shortest n)
  wrote_1 h e = e ∙ ap (wrote B at) (sym (short_1 n h))

  pub wrote_3 : 0xfd ≤ n → n < 0x1_0000 → B₁ ≡ wrote B at (0xfd ∷ bytes_of 2 n) → B₁ ≡ wrote B at (shortest n)
  wrote_3 h k e = e ∙ ap (wrote B at) (sym (short_3 n h k))

  pub wrote_5 : 0xfd ≤ n → 0x1_0000 ≤ n → n < 0x1_0000_0000 → B₁ ≡ wrote B at (0xfe ∷ bytes_of 4 n) → B₁ ≡ wrote B at (shortest n)
  wrote_5 h k l e = e ∙ ap (wrote B at) (sym (short_5 n h k l))

  pub wrote_9 : 0xfd ≤ n → 0x1_0000 ≤ n → 0x1_0000_0000 ≤ n → B₁ ≡ wrote B at (0xff ∷ bytes_of 8 n) → B₁ ≡ wrote B at (shortest n)
  wrote_9 h k l e = e ∙ ap (wrote B at) (sym (short_9 n h k l))

module _ (at n L : ℕ) (r : at + size_length n ≤ L) where
  pub room_1 : n < 0xfd → at + 1 ≤ L
  room_1 h = omega (arith, size_1 n h)

  pub room_3 : 0xfd ≤ n → n < 0x1_0000 → at + (1 + 2) ≤ L
  room_3 h k = omega (arith, size_3 n h k)

  pub room_5 : 0xfd ≤ n → 0x1_0000 ≤ n → n < 0x1_0000_0000 → at + (1 + 4) ≤ L
  room_5 h k l = omega (arith, size_5 n h k l)

  pub room_9 : 0xfd ≤ n → 0x1_0000 ≤ n → 0x1_0000_0000 ≤ n → at + (1 + 8) ≤ L
  room_9 h k l = omega (arith, size_9 n h k l)

pub ruleset spelt = (wrote_1, wrote_3, wrote_5, wrote_9, room_1, room_3, room_5, room_9)
