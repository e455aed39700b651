-- The bounds of an item's numbers, and the widths and entries that they give.
use mathlib.Core.Path.{◌≡◌, refl, sym, ◌∙◌, subst}
use mathlib.Core.List.{List}
use Prim.Native.Nat.{ℕ, ◌+◌, ◌-◌, ◌≤◌, ◌<◌}
use native.Mathlib.Omega.{arith}
use borrow.Author.Tests.{leb-true, eqb-false}
use lib.Dec.{leb, eqb}
use lib.ListN.{length, take, drop, length-drop}
use lib.Seq.{length-take-le}
use Rattle.format.specs.Compact.{size}
use Rattle.format.specs.Keys.{order}
use Rattle.format.specs.Rules.{rule}
use Rattle.format.specs.Entries.{entry_of, width}
use Rattle.format.specs.declared.PairEntry.{PairEntry}
use Rattle.format.specs.Answers.{Ruled, Size}
use Rattle.std.specs.Prelude.{Ok, Err}
use Rattle.format.proofs.Tests.{pick_by}
use Rattle.format.proofs.Compact.{size_own}
use Rattle.parsed_map.specs.Fronts.{head_by, head_of, order_rule, KeyIn, ruled_at, value_by, value_of, risen_at, item_at, item_of, HeadRead, ItemRead}
use Rattle.parsed_map.specs.Shown.{pair_at, OneIn}
use Rattle.parsed_map.specs.declared.Head.TheVariants as H
use Rattle.parsed_map.specs.declared.Item.TheVariants as I

-- what a key's numbers are in n bytes, by the case
abbrev HeadIn : ℕ → HeadRead → Type 0
HeadIn n (Err e) = Unit {0}
HeadIn n (Ok (H.Over u)) = (0 < u) × (u ≤ n)
HeadIn n (Ok (H.Key a l)) = KeyIn n a l

head_in : (s : List ℕ) → HeadIn (length s) (head_of s)
unfolding head_of head_by
head_in s = by (size s) refl
  where
    by : (y : Size) → size s ≡ y → HeadIn (length s) (head_by s y)
    by (Err e) q = tt
    by (Ok r) q =
        let w = size_own s r.value r.used q in
        pick_by (HeadIn (length s)) (eqb r.value 0) _ _ (λ t. (w.0, w.1))
        (λ t. pick_by (HeadIn (length s)) (leb r.value (length (drop r.used s))) _ _
        (λ v. record {
          some = omega (arith, eqb-false r.value 0 t);
          inside = omega
              (arith, leb-true r.value (length (drop r.used s)) v, length-drop r.used s, w.1);
        })
        (λ v. tt))

-- and an item's
abbrev ItemIn : ℕ → ItemRead → Type 0
ItemIn n (Err e) = Unit {0}
ItemIn n (Ok (I.Over u)) = (0 < u) × (u ≤ n)
ItemIn n (Ok (I.One e)) = OneIn n e.key e.klen e.value e.vlen

module _ (k : ℕ) (s : List ℕ) (a l : ℕ) (i : KeyIn (length s) a l) where
  ruled_in : (b v : ℕ) → a + l ≤ b → b + v ≤ length s → (y : Ruled) → ItemIn (length s) (ruled_at a l b v y)
  unfolding ruled_at
  ruled_in b v g h (Ok u) = record { some = i.some; ends = g; inside = h; moves = omega (arith, i.some) }
  ruled_in b v g h (Err e) = tt

  value_in : ItemIn (length s) (value_of k s a l)
  unfolding value_of value_by
  value_in = by (size (drop (a + l) s)) refl
    where
      by : (y : Size) → size (drop (a + l) s) ≡ y → ItemIn (length s) (value_by k s a l y)
      by (Err e) q = tt
      by (Ok r) q =
          let w = size_own (drop (a + l) s) r.value r.used q in
          pick_by (ItemIn (length s)) (leb r.value (length (drop (a + l + r.used) s))) _ _
          (λ t. ruled_in (a + l + r.used) r.value (omega arith)
          (omega (arith, leb-true r.value (length (drop (a + l + r.used) s)) t, length-drop (a + l + r.used) s, length-drop (a + l) s, w.1, i.inside))
          (rule k (take l (drop a s)) (take r.value (drop (a + l + r.used) s))))
          (λ t. tt)

  risen_in : (y : Ruled) → ItemIn (length s) (risen_at k s a l y)
  unfolding risen_at
  risen_in (Ok u) = value_in
  risen_in (Err e) = tt

item_in : (k : ℕ) (last s : List ℕ) → ItemIn (length s) (item_of k last s)
unfolding item_of item_at
item_in k last s = by (head_of s) (head_in s)
  where
    by : (y : HeadRead) → HeadIn (length s) y → ItemIn (length s) (item_at k last s y)
    by (Err e) h = tt
    by (Ok (H.Over u)) h = h
    by (Ok (H.Key a l)) h = risen_in k s a l h (order_rule (order last (take l (drop a s))))

-- so for an answer of `key_at`
pub key_in : (s : List ℕ) (o : HeadRead) → o ≡ head_of s → (a l : ℕ) → o ≡ Ok (H.Key a l) → KeyIn (length s) a l
key_in s o is a l e = subst (HeadIn (length s)) (sym is ∙ e) (head_in s)

-- and of `next_item`
module _ (k : ℕ) (last s : List ℕ) (o : ItemRead) (is : o ≡ item_of k last s) where
  pub over_in : (u : ℕ) → o ≡ Ok (I.Over u) → (0 < u) × (u ≤ length s)
  over_in u e = subst (ItemIn (length s)) (sym is ∙ e) (item_in k last s)

  pub over_length : (u : ℕ) → o ≡ Ok (I.Over u) → length (take u s) ≡ u
  over_length u e = length-take-le u s (over_in u e).1

  pub one_in : (e' : PairEntry) → o ≡ Ok (I.One e') → OneIn (length s) e'.key e'.klen e'.value e'.vlen
  one_in e' e = subst (ItemIn (length s)) (sym is ∙ e) (item_in k last s)

pub part_length : (s : List ℕ) (m n : ℕ) → m + n ≤ length s → length (take n (drop m s)) ≡ n
part_length s m n h = length-take-le n (drop m s) (rw length-drop (omega arith))

-- the lengths of a pair that lies in the bytes are its numbers
module _ (s : List ℕ) (a l b v : ℕ) (i : OneIn (length s) a l b v) where
  klen_is : length (take a s) ≡ a
  klen_is = part_length s 0 a (omega (arith, i.ends, i.inside))

  key_is : length (take l (drop a s)) ≡ l
  key_is = part_length s a l (omega (arith, i.ends, i.inside))

  vlen_is : length (take (b - (a + l)) (drop (a + l) s)) ≡ b - (a + l)
  vlen_is = part_length s (a + l) (b - (a + l)) (omega (arith, i.ends, i.inside))

  value_is : length (take v (drop b s)) ≡ v
  value_is = part_length s b v i.inside

  pub width_is : width (pair_at s a l b v) ≡ b + v
  unfolding width pair_at
  width_is = rw (klen_is, key_is, vlen_is, value_is) (omega (arith, i.ends))

  pub entry_is : (at : ℕ) → entry_of at (pair_at s a l b v) ≡ record { key = at + a; klen = l; value = at + b; vlen = v }
  unfolding entry_of pair_at
  entry_is at =
      let q : at + a + l + (b - (a + l)) ≡ at + b = omega (arith, i.ends) in
      rw (klen_is, key_is, vlen_is, value_is, q)
