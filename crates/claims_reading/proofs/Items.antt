-- An item and its bytes, both ways.
use mathlib.Core.Path.{◌≡◌, refl}
use mathlib.Core.List.{List, ◌++◌}
use Prim.Native.Nat.{ℕ, ◌≤◌, ◌<◌}
use native.Mathlib.Omega.{arith}
use borrow.Author.Tests.{leb-true, eqb-true, eqb-false, le-leb, ne_eqb}
use lib.Dec.{leb, eqb}
use lib.ListN.{length, take, drop, length-append, take-append-drop}
use lib.Seq.{length-take-le, take-append_seam, drop-append_seam}
use Rattle.format.specs.Compact.{size}
use Rattle.format.specs.Keys.{order}
use Rattle.format.specs.Content.{Pair, pair_bytes}
use Rattle.format.specs.Reading.{FieldRule, Item, stop, over, one, ruled, valued, risen, keyed, item_by_def, item}
use Rattle.std.specs.declared.cmp.Ordering.{Ordering}
use Rattle.format.specs.Answers.{spelt, Ruled, Size}
use Rattle.std.specs.declared.cmp.Ordering.TheVariants.{Less, Equal, Greater}
use Rattle.std.specs.Prelude.{Ok, Err}
use Rattle.format.proofs.Tests.{pick_by}
use Rattle.format.proofs.Compact.{Spells, size_more, size_own}
use Rattle.claims_reading.specs.Fine.{Framed, Keeps}

front≤ : (a b : List ℕ) → length a ≤ length (a ++ b)
front≤ a b = rw length-append (omega arith)

-- from the bytes to the item
pub item_over : (ρ : FieldRule) (last e r : List ℕ) → Spells e 0 → item ρ last (e ++ r) ≡ over e r
unfolding item item_by_def
item_over ρ last e r h = rw (size_more e r 0 (length e) h, take-append_seam e r, drop-append_seam e r)

module _ (ρ : FieldRule) (last : List ℕ) (p : Pair) (r : List ℕ) (f : Framed p) (o : order last p.key ≡ Less) (z : Keeps ρ p) where
  value_one : valued ρ p.klen p.key (p.vlen ++ (p.value ++ r)) (Ok (spelt (length p.value) (length p.vlen))) ≡ one p r
  unfolding valued ruled
  value_one =
      rw (
        drop-append_seam p.vlen (p.value ++ r),
        take-append_seam p.vlen (p.value ++ r),
        le-leb _ _ (front≤ p.value r),
        take-append_seam p.value r,
        drop-append_seam p.value r,
        z,
      )

  keyed_one : keyed ρ last p.klen (length p.key) (p.key ++ (p.vlen ++ (p.value ++ r))) ≡ one p r
  unfolding keyed risen
  keyed_one =
      rw (
        le-leb _ _ (front≤ p.key (p.vlen ++ (p.value ++ r))),
        take-append_seam p.key (p.vlen ++ (p.value ++ r)),
        drop-append_seam p.key (p.vlen ++ (p.value ++ r)),
        o,
        size_more p.vlen (p.value ++ r) _ _ f.vlen,
      ) value_one

  pub item_one : item ρ last (pair_bytes p r) ≡ one p r
  unfolding item item_by_def pair_bytes
  item_one =
      rw (
        size_more p.klen (p.key ++ (p.vlen ++ (p.value ++ r))) _ _ f.klen,
        ne_eqb (length p.key) 0 (λ e. omega (arith, f.some)),
        take-append_seam p.klen (p.key ++ (p.vlen ++ (p.value ++ r))),
        drop-append_seam p.klen (p.key ++ (p.vlen ++ (p.value ++ r))),
      ) keyed_one

-- from the item to the bytes
pub record OneIs (ρ : FieldRule) (last s : List ℕ) (p : Pair) (r : List ℕ) : Type 0 where
  pub is : pair_bytes p r ≡ s
  pub framed : Framed p
  pub rises : order last p.key ≡ Less
  pub keeps : Keeps ρ p

abbrev pub ItemIs : FieldRule → List ℕ → List ℕ → Item → Type 0
ItemIs ρ last s (stop e) = Unit {0}
ItemIs ρ last s (over a r) = (a ++ r ≡ s) × Spells a 0
ItemIs ρ last s (one p r) = OneIs ρ last s p r

module _ (ρ : FieldRule) (last s : List ℕ) where
  ruled_is : (p : Pair) (r : List ℕ) → pair_bytes p r ≡ s → Framed p → order last p.key ≡ Less → (y : Ruled) → ρ p.key p.value ≡ y
      → ItemIs ρ last s (ruled p r y)
  unfolding ruled
  ruled_is p r e f o (Ok u) q = record { is = e; framed = f; rises = o; keeps = q }
  ruled_is p r e f o (Err x) q = tt

  value_is : (a key r : List ℕ) → a ++ (key ++ r) ≡ s → Spells a (length key) → 0 < length key → order last key ≡ Less → (y : Size) → size r ≡ y
      → ItemIs ρ last s (valued ρ a key r y)
  unfolding valued pair_bytes
  value_is a key r e h l o (Err x) q = tt
  value_is a key r e h l o (Ok r') q =
      let w = size_own r r'.value r'.used q in
      pick_by (ItemIs ρ last s) (leb r'.value (length (drop r'.used r))) _ _
      (λ t. let m : length (take r'.value (drop r'.used r)) ≡ r'.value = length-take-le r'.value (drop r'.used r) (leb-true _ _ t) in
      ruled_is (record { klen = a; key = key; vlen = take r'.used r; value = take r'.value (drop r'.used r) }) (drop r'.value (drop r'.used r))
      (rw (take-append-drop r'.value (drop r'.used r), take-append-drop r'.used r) e) (record { klen = h; vlen = rw m w.2; some = l }) o _ refl)
      (λ t. tt)

  risen_is : (a key r : List ℕ) → a ++ (key ++ r) ≡ s → Spells a (length key)
      → 0 < length key → (o : Ordering) → order last key ≡ o → ItemIs ρ last s (risen ρ a key r o)
  unfolding risen
  risen_is a key r e h l Less o = value_is a key r e h l o (size r) refl
  risen_is a key r e h l Equal o = tt
  risen_is a key r e h l Greater o = tt

  by_size : (y : Size) → size s ≡ y → ItemIs ρ last s (item_by_def ρ last s y)
  unfolding item_by_def keyed
  by_size (Err e) q = tt
  by_size (Ok r) q =
      let w = size_own s r.value r.used q in
      pick_by (ItemIs ρ last s) (eqb r.value 0) _ _
      (λ t. (take-append-drop r.used s, rw (eqb-true r.value 0 t) at w.2))
      (λ t. pick_by (ItemIs ρ last s) (leb r.value (length (drop r.used s))) _ _
      (λ v. let m : length (take r.value (drop r.used s)) ≡ r.value = length-take-le r.value (drop r.used s) (leb-true _ _ v) in
      risen_is (take r.used s) (take r.value (drop r.used s)) (drop r.value (drop r.used s))
      (rw (take-append-drop r.value (drop r.used s), take-append-drop r.used s))
      (rw m w.2) (rw m (omega (arith, eqb-false r.value 0 t))) (order last (take r.value (drop r.used s))) refl)
      (λ v. tt))

  pub item_is : ItemIs ρ last s (item ρ last s)
  unfolding item
  item_is = by_size (size s) refl
