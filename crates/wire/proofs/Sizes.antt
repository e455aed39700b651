-- Laws of compact sizes: one for each way through the reading of one and through a count; and nine bytes decide.
use mathlib.Core.Path.{◌≡◌, refl, sym, ◌∙◌, ap}
use mathlib.Core.List.{List, [], ◌∷◌}
use mathlib.Core.Bool.{Bool, true, false}
use Prim.Native.Nat.{ℕ, suc, ◌+◌, ◌-◌, ◌≤◌, ◌<◌, min}
use native.Mathlib.Omega.{arith}
use native.Mathlib.Numerals.{add-one}
use borrow.Author.Tests.{lt-ltb, le-ltb, eq-eqb, ne_eqb, le-leb, lt-leb, leb-true, leb-false}
use lib.Dec.{leb, eqb, leb-suc-suc}
use lib.ListN.{length, take, drop, get_or, length-take, length-drop}
use lib.Seq.{take_all, take-take}
use mir.Syntax.{w64}
use mir.Val.{Fits}
use Rattle.format.specs.Tests.{pick}
use Rattle.format.specs.Compact.{long, size_by, size, count_by_def}
use Rattle.format.specs.declared.PsbtError.{PsbtError}
use Rattle.format.specs.declared.PsbtError.TheVariants.{UnexpectedEof, InvalidCompactSize}
use Rattle.format.specs.declared.CompactSize.{CompactSize}
use Rattle.format.specs.Answers.{spelt, Size}
use Rattle.std.specs.Prelude.{Ok, Err}
use Rattle.wire.specs.Leads.{lead, spelled, width, Long}

-- a part to the end, as the rule for `&s[a..]` has it
pub part_rest : (a : ℕ) (s : List ℕ) → take (length s - a) (drop a s) ≡ drop a s
part_rest a s = take_all (length s - a) (drop a s) (rw length-drop (omega arith))

pub size_none : (s : List ℕ) → length s ≡ 0 → Err UnexpectedEof ≡ size s
unfolding size
size_none [] h = refl
size_none (b ∷ s) h = absurd (omega arith)

-- the first byte and the rest, as the code has them
size_cons : (s : List ℕ) → 0 < length s → size s ≡ size_by (get_or s 0 0) (take (length s - 1) (drop 1 s))
unfolding size
size_cons [] h = absurd (omega arith)
size_cons (b ∷ s) h = ap (size_by b) (sym (part_rest 1 (b ∷ s)))

pub size_one : (s : List ℕ) → (length s ≡ 0 → ⊥) → get_or s 0 0 < 0xfd → Ok (spelt (get_or s 0 0) 1) ≡ size s
unfolding size_by
size_one s some h = sym (size_cons s (omega arith) ∙ rw (lt-ltb (get_or s 0 0) 0xfd h))

pub ruleset sizes = (size_none, size_one)

-- w bytes behind the first are w + 1 bytes in all
long_spelled : (n w v : ℕ) (r : List ℕ) → n ≡ suc (length r) → v ≡ lead w r → spelled n (suc w) v ≡ long w r
unfolding spelled long lead
long_spelled n w v r h e = rw (h, e, leb-suc-suc w (length r))

-- the bytes that follow are at most eight, and the first byte leads to them
pick_most : (c : Bool) (x y : ℕ) → x ≤ 8 → y ≤ 8 → pick c x y ≤ 8
pick_most true x y h k = h
pick_most false x y h k = k

width_most : (b : ℕ) → width b ≤ 8
unfolding width
width_most b = pick_most (eqb b 0xfd) 2 _ (omega arith) (pick_most (eqb b 0xfe) 4 8 (omega arith) (omega arith))

pick_long : (c : Bool) (x y : ℕ) (r : List ℕ) → pick c (long x r) (long y r) ≡ long (pick c x y) r
pick_long true x y r = refl
pick_long false x y r = refl

size_width : (b : ℕ) (r : List ℕ) → 0xfd ≤ b → size_by b r ≡ long (width b) r
unfolding size_by width
size_width b r h =
    rw (le-ltb b 0xfd h, pick_long (eqb b 0xfe) 4 8 r, pick_long (eqb b 0xfd) 2 (pick (eqb b 0xfe) 4 8) r) refl

module _ (w b : ℕ) (e : w ≡ width b) where
  pub long_most : w ≤ 8
  long_most = rw e (width_most b)

  pub long_fits : Fits w64 (w + 1)
  long_fits = record { fits = omega (arith, long_most) }

-- the rest behind the first byte, as the code has it
pub size_long : (s : List ℕ) (o : Size) (w v : ℕ) → Long s
    → w ≡ width (get_or s 0 0) → v ≡ lead w (take (length s - 1) (drop 1 s)) → o ≡ spelled (length s) (w + 1) v → o ≡ size s
size_long s o w v is e f g =
    let r = take (length s - 1) (drop 1 s) in
    let l : length s ≡ suc (length r) = rw (part_rest 1 s, length-drop) (omega (arith, is.some)) in
    g ∙ ap (λ (n : ℕ). spelled (length s) n v) (add-one w) ∙ long_spelled (length s) w v r l f
    ∙ sym (size_cons s is.some ∙ size_width (get_or s 0 0) r is.above ∙ ap (λ (n : ℕ). long n r) (sym e))

pub ruleset longs = (long_most, long_fits, size_long)

-- a count, by what was read of it
module _ (n : ℕ) (s : List ℕ) (o : Size) (is : o ≡ size s) where
  counts : (z : Size) → o ≡ z → count_by_def n z ≡ count_by_def n (size s)
  counts z e = ap (count_by_def n) (sym e ∙ is)

  module _ (e : PsbtError) (q : o ≡ Err e) where
    pub count_bad : n ≤ 1 → Err e ≡ count_by_def n (size s)
    unfolding count_by_def
    count_bad h = rw (le-leb n 1 h) at (counts (Err e) q)

    pub count_left : 1 < n → Err InvalidCompactSize ≡ count_by_def n (size s)
    unfolding count_by_def
    count_left h = rw (lt-leb n 1 h) at (counts (Err e) q)

  module _ (r : CompactSize) (q : o ≡ Ok r) where
    pub count_whole : n ≡ r.used → Ok r ≡ count_by_def n (size s)
    unfolding count_by_def
    count_whole h = rw (eq-eqb n r.used h) at (counts (Ok r) q)

    pub count_over : (n ≡ r.used → ⊥) → Err InvalidCompactSize ≡ count_by_def n (size s)
    unfolding count_by_def
    count_over h = rw (ne_eqb n r.used h) at (counts (Ok r) q)

pub ruleset counts_by = (count_bad, count_left, count_whole, count_over)

-- the first nine bytes decide
front_leb : (w n k : ℕ) → w ≤ k → leb w (min k n) ≡ leb w n
front_leb w n k h = by (leb w n) refl
  where
    by : (t : Bool) → leb w n ≡ t → leb w (min k n) ≡ t
    by true q = let l = leb-true w n q in le-leb w (min k n) (omega arith)
    by false q = let l = leb-false w n q in lt-leb w (min k n) (omega arith)

long_front : (w k : ℕ) (r : List ℕ) → w ≤ k → long w (take k r) ≡ long w r
unfolding long
long_front w k r h = rw (take-take w k r h, length-take, front_leb w (length r) k h)

pub size_front : (v : List ℕ) → size (take 9 v) ≡ size v
unfolding size size_by
size_front [] = refl
size_front (b ∷ r) = rw (long_front 2 8 r (omega arith), long_front 4 8 r (omega arith), long_front 8 8 r (omega arith))
