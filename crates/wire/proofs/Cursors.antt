-- Laws of reading at a place: one for each way through each call.
use mathlib.Core.Path.{◌≡◌, sym, ◌∙◌, ap}
use mathlib.Core.List.{List}
use Prim.Native.Nat.{ℕ, ◌+◌, ◌-◌, ◌^◌, ◌≤◌, ◌<◌}
use native.Mathlib.Omega.{arith}
use borrow.Author.Tests.{le-leb, lt-leb}
use lib.Dec.{leb}
use lib.ListN.{length, take, drop, length-drop}
use mir.Syntax.{w64}
use mir.Val.{Fits}
use Rattle.format.specs.Compact.{size}
use Rattle.format.specs.declared.PsbtError.{PsbtError}
use Rattle.format.specs.declared.PsbtError.TheVariants.{UnexpectedEof}
use Rattle.format.specs.declared.CompactSize.{CompactSize}
use Rattle.format.specs.Answers.{part_at, spelt, Size}
use Rattle.std.specs.Prelude.{Ok, Err}
use Rattle.format.proofs.Tests.{pick_ap}
use Rattle.wire.specs.declared.Cursor.{Cursor}
use Rattle.wire.specs.Cursors.{cursor, remaining, take_at_def, size_at_by, size_at, prefixed_by, prefixed_at, Taken, SizeRead, Prefixed}
use Rattle.wire.proofs.Sizes.{part_rest, size_none}
use Rattle.wire.proofs.Bounds.{size_in, remaining_is, SizeIs, size_is, size_bad}

-- taking bytes, by what is left
module _ (s : List ℕ) (p n r : ℕ) (is : r ≡ remaining s p) where
  pub take_no : r < n → Err UnexpectedEof ≡ take_at_def s p n
  unfolding take_at_def
  take_no h = let k : remaining s p < n = omega arith in rw (lt-leb n (remaining s p) k)

  pub take_yes : (c : Cursor) → n ≤ r → c ≡ cursor (p + n) → Ok (p, c) ≡ take_at_def s p n
  unfolding take_at_def
  take_yes c h e = let k : n ≤ remaining s p = omega arith in rw (le-leb n (remaining s p) k, e)

  pub take_fits : n ≤ r → Fits w64 p → length s < 2 ^ 64 → Fits w64 (p + n)
  take_fits h f l = record { fits = omega (arith, remaining_is s p) }

pub ruleset takes = (take_no, take_yes, take_fits)

-- a compact size at a place, by what was read of the bytes left there
pub at_none : (s : List ℕ) (p : ℕ) → length s < p → Err UnexpectedEof ≡ size_at s p
unfolding size_at size_at_by
at_none s p h = ap (size_at_by p) (size_none (drop p s) (rw length-drop (omega arith)))

module _ (s : List ℕ) (p : ℕ) (o : Size) (is : o ≡ size (take (length s - p) (drop p s))) where
  at_by : (z : Size) → o ≡ z → size_at_by p z ≡ size_at s p
  unfolding size_at
  at_by z e = ap (size_at_by p) (sym e ∙ is ∙ ap size (part_rest p s))

  pub at_bad : (e : PsbtError) → o ≡ Err e → Err e ≡ size_at s p
  unfolding size_at_by
  at_bad e q = at_by (Err e) q

  pub at_read : (r : CompactSize) (c : Cursor) → o ≡ Ok r → c ≡ cursor (p + r.used) → Ok (r.value, c) ≡ size_at s p
  unfolding size_at_by
  at_read r c q e = rw e (at_by (Ok r) q)

  pub at_fits : (r : CompactSize) → o ≡ Ok r → p ≤ length s → length s < 2 ^ 64 → Fits w64 (p + r.used)
  at_fits r q h l = record { fits = omega (arith, size_in (drop p s) o r (is ∙ ap size (part_rest p s)) q, length-drop p s) }

pub ruleset ats = (at_none, at_bad, at_read, at_fits)

-- bytes behind their length, by the length and by what was taken
prefixed_of : ℕ → Taken → Prefixed
prefixed_of n (Err e) = Err e
prefixed_of n (Ok (a, c)) = Ok (part_at a n, c)

prefixed_taken : (s : List ℕ) (p n u : ℕ) → prefixed_of n (take_at_def s (p + u) n) ≡ prefixed_by s p (Ok (spelt n u))
unfolding prefixed_by take_at_def prefixed_of
prefixed_taken s p n u = pick_ap (prefixed_of n) (leb n (remaining s (p + u))) _ _

module _ (s : List ℕ) (p : ℕ) (o : SizeRead) (at : o ≡ size_at s p) where
  pub no_length : (e : PsbtError) → o ≡ Err e → Err e ≡ prefixed_at s p
  unfolding prefixed_at prefixed_by
  no_length e f = sym (ap (prefixed_by s p) (size_bad s p o at e f))

  module _ (n : ℕ) (c : Cursor) (f : o ≡ Ok (n, c)) (t : Taken) (is : t ≡ take_at_def s c.pos n) where
    taken_by : (z : Taken) → t ≡ z → prefixed_of n z ≡ prefixed_at s p
    unfolding prefixed_at
    taken_by z e =
        let i : SizeIs s p n c = size_is s p o at n c f in
        ap (prefixed_of n) (sym e ∙ is ∙ ap (λ (q : ℕ). take_at_def s q n) i.next) ∙ prefixed_taken s p n i.used ∙ sym (ap (prefixed_by s p) i.is)

    pub no_bytes : (e : PsbtError) → t ≡ Err e → Err e ≡ prefixed_at s p
    unfolding prefixed_of
    no_bytes e q = taken_by (Err e) q

    pub some_bytes : (a : ℕ) (d : Cursor) → t ≡ Ok (a, d) → Ok (part_at a n, d) ≡ prefixed_at s p
    unfolding prefixed_of
    some_bytes a d q = taken_by (Ok (a, d)) q

pub ruleset prefixes = (no_length, no_bytes, some_bytes)
