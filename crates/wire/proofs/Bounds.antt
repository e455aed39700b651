-- What an answer says of the bytes, case by case, and the bounds that callers need of it.
use mathlib.Core.Path.{◌≡◌, refl, sym, ◌∙◌, ap}
use mathlib.Core.List.{List}
use Prim.Native.Nat.{ℕ, ◌+◌, ◌-◌, ◌≤◌, ◌<◌}
use native.Mathlib.Omega.{arith}
use borrow.Author.Tests.{leb-true}
use lib.Dec.{leb, eqb}
use lib.ListN.{length, drop, length-drop}
use Rattle.format.specs.Compact.{size, count_by_def}
use Rattle.format.specs.declared.PsbtError.{PsbtError}
use Rattle.format.specs.declared.PsbtError.TheVariants.{UnexpectedEof, InvalidCompactSize}
use Rattle.format.specs.declared.CompactSize.{CompactSize}
use Rattle.format.specs.Answers.{part_at, spelt, Size}
use Rattle.std.specs.Prelude.{Ok, Err}
use Rattle.format.proofs.Tests.{pick_by}
use Rattle.format.proofs.Compact.{size_own}
use Rattle.format.specs.declared.Part.{Part}
use Rattle.wire.specs.declared.Cursor.{Cursor}
use Rattle.wire.specs.Cursors.{cursor, remaining, size_at_by, size_at, prefixed_by, prefixed_at, Prefixed, SizeRead}

-- a compact size that was read takes a byte at least, and no more than there are
module _ (s : List ℕ) (z : Size) (r : CompactSize) (is : z ≡ size s) (e : z ≡ Ok r) where
  pub size_some : 0 < r.used
  size_some = (size_own s r.value r.used (sym is ∙ e)).0

  pub size_in : r.used ≤ length s
  size_in = (size_own s r.value r.used (sym is ∙ e)).1

-- a count is the compact size that was read
pub count_read : (m : ℕ) (o z : Size) (r' : CompactSize) → o ≡ count_by_def m z → o ≡ Ok r' → z ≡ Ok r'
unfolding count_by_def
count_read m o (Ok r) r' is e =
    pick_by (λ (x : Size). o ≡ x → ◌≡◌ {A = Size} (Ok r) (Ok r')) (eqb m r.used) _ _ (λ q h. sym h ∙ e)
    (λ q (h : o ≡ Err InvalidCompactSize). let y : ◌≡◌ {A = ℕ} 0 1 = cc in absurd (omega arith)) is
count_read m o (Err x) r' is e =
    pick_by (λ (y : Size). o ≡ y → ◌≡◌ {A = Size} (Err x) (Ok r')) (leb m 1) _ _ (λ q h. sym h ∙ e)
    (λ q (h : o ≡ Err InvalidCompactSize). let y : ◌≡◌ {A = ℕ} 0 1 = cc in absurd (omega arith)) is

-- what is left is the length without the place
pub remaining_is : (s : List ℕ) (p : ℕ) → remaining s p ≡ length s - p
unfolding remaining
remaining_is s p = length-drop p s

-- a compact size that was read at a place
pub record SizeIs (s : List ℕ) (p n : ℕ) (c : Cursor) : Type 0 where
  pub used : ℕ
  pub is : size (drop p s) ≡ Ok (spelt n used)
  pub next : c.pos ≡ p + used

module _ (s : List ℕ) (p : ℕ) (o : SizeRead) (at : o ≡ size_at s p) where
  at_by : (z : Size) → size (drop p s) ≡ z → o ≡ size_at_by p z
  unfolding size_at
  at_by z q = at ∙ ap (size_at_by p) q

  pub size_bad : (e : PsbtError) → o ≡ Err e → size (drop p s) ≡ Err e
  unfolding size_at_by
  size_bad e f = by (size (drop p s)) refl
    where
      by : (z : Size) → size (drop p s) ≡ z → size (drop p s) ≡ Err e
      by (Err x) q = let g : o ≡ (Err x) = at_by (Err x) q in let y : x ≡ e = cc in rw y at q
      by (Ok r) q = let g : o ≡ (Ok (r.value, (cursor (p + r.used)))) = at_by (Ok r) q in let z : ◌≡◌ {A = ℕ} 0 1 = cc in absurd (omega arith)

  module _ (n : ℕ) (c : Cursor) (f : o ≡ Ok (n, c)) where
    pub size_is : SizeIs s p n c
    unfolding size_at_by
    size_is = by (size (drop p s)) refl
      where
        by : (z : Size) → size (drop p s) ≡ z → SizeIs s p n c
        by (Err x) q = let g : o ≡ (Err x) = at_by (Err x) q in let z : ◌≡◌ {A = ℕ} 0 1 = cc in absurd (omega arith)
        by (Ok r) q =
            let g : o ≡ (Ok (r.value, (cursor (p + r.used)))) = at_by (Ok r) q in
            let t : (r.value, cursor (p + r.used)) ≡ (n, c) = cc in
            let x : r.value ≡ n = ap (λ (d : ℕ × Cursor). d.0) t in
            let y : cursor (p + r.used) ≡ c = ap (λ (d : ℕ × Cursor). d.1) t in
            record { used = r.used; is = rw x at q; next = sym (ap (λ (d : Cursor). d.pos) y) }

-- bytes that were read behind their length at a place
pub record PrefixedIs (s : List ℕ) (p a n : ℕ) (c : Cursor) : Type 0 where
  pub used : ℕ
  pub is : size (drop p s) ≡ Ok (spelt n used)
  pub room : n ≤ remaining s (p + used)
  pub start : a ≡ p + used
  pub next : c.pos ≡ p + used + n

module _ (s : List ℕ) (p : ℕ) (o : Prefixed) (at : o ≡ prefixed_at s p) where
  behind_by : (z : Size) → size (drop p s) ≡ z → o ≡ prefixed_by s p z
  unfolding prefixed_at
  behind_by z q = at ∙ ap (prefixed_by s p) q

  module _ (p' : Part) (c : Cursor) (f : o ≡ Ok (p', c)) where
    pub prefixed_is : PrefixedIs s p p'.start p'.len c
    unfolding prefixed_by
    prefixed_is = by (size (drop p s)) refl
      where
        by : (z : Size) → size (drop p s) ≡ z → PrefixedIs s p p'.start p'.len c
        by (Err x) q = let g : o ≡ (Err x) = behind_by (Err x) q in let z : ◌≡◌ {A = ℕ} 0 1 = cc in absurd (omega arith)
        by (Ok r) q =
            pick_by (λ (x : Prefixed). o ≡ x → PrefixedIs s p p'.start p'.len c) (leb r.value (remaining s (p + r.used))) _ _
            (λ t (h : o ≡ Ok (part_at (p + r.used) r.value, (cursor (p + r.used + r.value)))).
            let u : (part_at (p + r.used) r.value, cursor (p + r.used + r.value)) ≡ (p', c) = cc in
            let x : r.value ≡ p'.len = ap (λ (d : Part × Cursor). d.0.len) u in
            let y : cursor (p + r.used + r.value) ≡ c = ap (λ (d : Part × Cursor). d.1) u in
            let w : p + r.used ≡ p'.start = ap (λ (d : Part × Cursor). d.0.start) u in
            record {
              used = r.used;
              is = rw x at q;
              room = rw x at (leb-true r.value (remaining s (p + r.used)) t);
              start = sym w;
              next = rw x at (sym (ap (λ (d : Cursor). d.pos) y));
            })
            (λ t (h : o ≡ Err UnexpectedEof). let z : ◌≡◌ {A = ℕ} 0 1 = cc in absurd (omega arith)) (behind_by (Ok r) q)

    pub prefixed_next : c.pos ≡ p'.start + p'.len
    prefixed_next = let i = prefixed_is in omega arith

    pub prefixed_in : p'.start + p'.len ≤ length s
    prefixed_in =
        let i = prefixed_is in
        omega (
          arith,
          size_some (drop p s) (size (drop p s)) (spelt p'.len i.used) refl i.is,
          size_in (drop p s) (size (drop p s)) (spelt p'.len i.used) refl i.is,
          length-drop p s,
          remaining_is s (p + i.used),
        )
