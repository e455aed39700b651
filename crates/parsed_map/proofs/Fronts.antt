-- Laws of the item at the front, one for each way through each call.
use mathlib.Core.Path.{◌≡◌, refl, sym, ◌∙◌, ap}
use mathlib.Core.List.{List}
use Prim.Native.Nat.{ℕ, zero, suc, ◌+◌, ◌-◌, ◌^◌, ◌≤◌, ◌<◌}
use native.Mathlib.Nat.{add-sub_cancel_left}
use native.Mathlib.Omega.{arith}
use borrow.Author.Tests.{eq-eqb, ne_eqb}
use lib.Dec.{leb}
use lib.ListN.{length, take, drop, get_or}
use lib.Seq.{drop-cons}
use mir.Syntax.{w64}
use mir.Val.{Fits}
use Rattle.format.specs.Compact.{size}
use Rattle.format.specs.Keys.{order, type_of, data_of}
use Rattle.format.specs.Rules.{rule}
use Rattle.format.specs.declared.PsbtError.{PsbtError}
use Rattle.format.specs.declared.PsbtError.TheVariants.{DuplicateKey, UnsortedKeys}
use Rattle.std.specs.declared.cmp.Ordering.{Ordering}
use Rattle.format.specs.declared.Part.{Part}
use Rattle.format.specs.Answers.{spelt, passed, Ruled, Size}
use Rattle.std.specs.declared.cmp.Ordering.TheVariants.{Less, Equal, Greater}
use Rattle.std.specs.Prelude.{Ok, Err}
use Rattle.format.proofs.Tests.{pick_ap}
use Rattle.wire.specs.Cursors.{cursor, remaining, take_at_def, size_at, prefixed_by, prefixed_at, Prefixed, SizeRead, Taken, Taken, SizeRead, Prefixed}
use Rattle.wire.specs.declared.Cursor.{Cursor}
use Rattle.wire.proofs.Bounds.{SizeIs, size_is, size_bad, prefixed_next, prefixed_in}
use Rattle.fields.specs.Fronts.{rule_by}
use Rattle.fields.proofs.Fronts.{rule_whole}
use Rattle.parsed_map.specs.Fronts.{head_by, head_of, order_rule, KeyIn, ruled_at, value_by, value_of, risen_at, item_at, item_of, entry_at, HeadRead, ItemRead}
use Rattle.parsed_map.specs.declared.Head.TheVariants as H
use Rattle.parsed_map.specs.declared.Item.TheVariants as I
use Rattle.parsed_map.proofs.Items.{key_in, part_length}

-- a key of n bytes, by what was taken behind its length
head_taken : ℕ → Taken → HeadRead
head_taken n (Err e) = Err e
head_taken n (Ok (a, c)) = Ok (H.Key a n)

module _ (s : List ℕ) (b : Cursor) (f : b ≡ cursor 0) (o : SizeRead) (at : o ≡ size_at s b.pos) where
  front : o ≡ size_at s 0
  front = at ∙ ap (λ (c : Cursor). size_at s c.pos) f

  pub head_bad : (e : PsbtError) → o ≡ Err e → Err e ≡ head_of s
  unfolding head_of head_by
  head_bad e g = sym (ap (head_by s) (size_bad s 0 o front e g))

  module _ (n : ℕ) (c : Cursor) (g : o ≡ Ok (n, c)) where
    head_read : head_by s (Ok (spelt n c.pos)) ≡ head_of s
    unfolding head_of
    head_read =
        let i : SizeIs s 0 n c = size_is s 0 o front n c g in
        let q : c.pos ≡ i.used = omega (arith, i.next) in
        ap (λ (u : ℕ). head_by s (Ok (spelt n u))) q ∙ sym (ap (head_by s) i.is)

    pub head_over : n ≡ 0 → Ok (H.Over c.pos) ≡ head_of s
    unfolding head_by
    head_over h = rw (eq-eqb n 0 h) at head_read

    module _ (h : n ≡ 0 → ⊥) (t : Taken) (is : t ≡ take_at_def s c.pos n) where
      head_taken_lem : (z : Taken) → t ≡ z → head_taken n z ≡ head_of s
      unfolding head_by head_taken take_at_def remaining
      head_taken_lem z e =
          ap (head_taken n) (sym e ∙ is) ∙ pick_ap (head_taken n) (leb n (length (drop c.pos s))) _ _ ∙ rw (ne_eqb n 0 h) at head_read

      pub head_short : (e : PsbtError) → t ≡ Err e → Err e ≡ head_of s
      unfolding head_taken
      head_short e q = head_taken_lem (Err e) q

      pub head_key : (a : ℕ) (d : Cursor) → t ≡ Ok (a, d) → Ok (H.Key a n) ≡ head_of s
      unfolding head_taken
      head_key a d q = head_taken_lem (Ok (a, d)) q

pub ruleset heads = (head_bad, head_over, head_short, head_key)

-- the order of the last key to this one
module _ (a b : List ℕ) (o : Ordering) (is : o ≡ order a b) where
  by_order : (y : Ordering) → o ≡ y → order_rule y ≡ order_rule (order a b)
  by_order y e = ap order_rule (sym e ∙ is)

  pub order_below : o ≡ Less → passed ≡ order_rule (order a b)
  unfolding order_rule
  order_below e = by_order Less e

  pub order_same : o ≡ Equal → Err DuplicateKey ≡ order_rule (order a b)
  unfolding order_rule
  order_same e = by_order Equal e

  pub order_above : o ≡ Greater → Err UnsortedKeys ≡ order_rule (order a b)
  unfolding order_rule
  order_above e = by_order Greater e

pub ruleset order_rules = (order_below, order_same, order_above)

-- the type of a key in the bytes, and the length of its data
key_type_lem : (s : List ℕ) (a l : ℕ) → KeyIn (length s) a l → type_of (take l (drop a s)) ≡ get_or s a 0
unfolding type_of
key_type_lem s a zero i = absurd (omega (arith, i.some))
key_type_lem s a (suc l) i = rw (drop-cons s a 0 (omega (arith, i.inside)))

key_data_lem : (s : List ℕ) (a l : ℕ) → KeyIn (length s) a l → length (data_of (take l (drop a s))) ≡ l - 1
unfolding data_of
key_data_lem s a zero i = absurd (omega (arith, i.some))
key_data_lem s a (suc l) i =
    let q : suc l - 1 ≡ l = omega arith in
    rw (q, drop-cons s a 0 (omega (arith, i.inside))) (part_length s (suc a) l (omega (arith, i.inside)))

-- a pair with a key of l bytes at a, by what was read behind the key
value_taken : ℕ → List ℕ → ℕ → ℕ → Prefixed → ItemRead
value_taken k s a l (Err e) = Err e
value_taken k s a l (Ok (p, c)) = ruled_at a l p.start p.len (rule k (take l (drop a s)) (take p.len (drop p.start s)))

module _ (k : ℕ) (s : List ℕ) (a l : ℕ) (b : Cursor) (f : b ≡ cursor (a + l)) (o : Prefixed) (at : o ≡ prefixed_at s b.pos) where
  value_by_lem : (z : Prefixed) → o ≡ z → value_taken k s a l z ≡ value_of k s a l
  unfolding value_of value_taken prefixed_at prefixed_by remaining value_by
  value_by_lem z e = ap (value_taken k s a l) (sym e ∙ at ∙ ap (λ (c : Cursor). prefixed_at s c.pos) f) ∙ by (size (drop (a + l) s))
    where
      by : (y : Size) → value_taken k s a l (prefixed_by s (a + l) y) ≡ value_by k s a l y
      by (Err e) = refl
      by (Ok r) = pick_ap (value_taken k s a l) (leb r.value (length (drop (a + l + r.used) s))) _ _

  pub value_bad : (e : PsbtError) → o ≡ Err e → Err e ≡ value_of k s a l
  unfolding value_taken
  value_bad e q = value_by_lem (Err e) q

  module _ (p : Part) (d : Cursor) (g : o ≡ Ok (p, d))
      (i : KeyIn (length s) a l) (y : Ruled) (is : y ≡ rule_by k (get_or s a 0) (l - 1) p.len (take (d.pos - p.start) (drop p.start s))) where
    value_ruled : (z : Ruled) → y ≡ z → ruled_at a l p.start p.len z ≡ value_of k s a l
    unfolding value_taken
    value_ruled z e =
        let q : d.pos - p.start ≡ p.len = omega (arith, prefixed_next s b.pos o at p d g) in
        let h : length (take p.len (drop p.start s)) ≡ p.len = part_length s p.start p.len (prefixed_in s b.pos o at p d g) in
        ap (ruled_at a l p.start p.len) (sym e ∙ is ∙ sym (rule_whole k (take l (drop a s)) (take p.len (drop p.start s)) ∙ rw
        (key_type_lem s a l i, key_data_lem s a l i, h, q)))
        ∙ value_by_lem (Ok (p, d)) g

    pub value_refused : (e : PsbtError) → y ≡ Err e → Err e ≡ value_of k s a l
    unfolding ruled_at
    value_refused e q = value_ruled (Err e) q

    pub value_passed : y ≡ passed → Ok (I.One (entry_at a l p.start p.len)) ≡ value_of k s a l
    unfolding ruled_at
    value_passed q = value_ruled passed q

-- the place behind bytes that were read
module _ (s : List ℕ) (p : ℕ) (o : Prefixed) (at : o ≡ prefixed_at s p) (p' : Part) (d : Cursor) (g : o ≡ Ok (p', d)) where
  pub value_starts : p'.start ≤ d.pos
  value_starts = omega (arith, prefixed_next s p o at p' d g)

  pub value_ends : d.pos ≤ length s
  value_ends = omega (arith, prefixed_next s p o at p' d g, prefixed_in s p o at p' d g)

pub key_fits : (s : List ℕ) (a l : ℕ) → KeyIn (length s) a l → length s < 2 ^ 64 → Fits w64 (a + l)
key_fits s a l i h = record { fits = omega (arith, i.inside) }

pub ruleset values = (key_fits, value_bad, value_starts, value_ends, value_refused, value_passed)

-- the item, by its key
module _ (k : ℕ) (last s : List ℕ) (o : HeadRead) (is : o ≡ head_of s) where
  item_by : (z : HeadRead) → o ≡ z → item_at k last s z ≡ item_of k last s
  unfolding item_of
  item_by z e = ap (item_at k last s) (sym e ∙ is)

  pub item_stop : (e : PsbtError) → o ≡ Err e → Err e ≡ item_of k last s
  unfolding item_at
  item_stop e q = item_by (Err e) q

  pub item_over : (u : ℕ) → o ≡ Ok (H.Over u) → Ok (I.Over u) ≡ item_of k last s
  unfolding item_at
  item_over u q = item_by (Ok (H.Over u)) q

  module _ (a l : ℕ) (e : o ≡ Ok (H.Key a l)) (y : Ruled) (r : y ≡ order_rule (order last (take (a + l - a) (drop a s)))) where
    risen_by : (z : Ruled) → y ≡ z → risen_at k s a l z ≡ item_of k last s
    unfolding item_at
    risen_by z q =
        ap (risen_at k s a l) (sym q ∙ r ∙ ap (λ (n : ℕ). order_rule (order last (take n (drop a s)))) (add-sub_cancel_left a l)) ∙ item_by (Ok (H.Key a l)) e

    pub item_refused : (x : PsbtError) → y ≡ Err x → Err x ≡ item_of k last s
    unfolding risen_at
    item_refused x q = risen_by (Err x) q

    pub item_value : y ≡ passed → (z : ItemRead) → z ≡ value_of k s a l → z ≡ item_of k last s
    unfolding risen_at
    item_value q z w = w ∙ risen_by passed q

-- its key lies in the bytes
module _ (s : List ℕ) (o : HeadRead) (is : o ≡ head_of s) (a l : ℕ) (e : o ≡ Ok (H.Key a l)) where
  pub item_fits : length s < 2 ^ 64 → Fits w64 (a + l)
  item_fits h = key_fits s a l (key_in s o is a l e) h

  pub item_ends : a + l ≤ length s
  item_ends = (key_in s o is a l e).inside

pub ruleset items = (key_in, item_fits, item_ends, item_stop, item_over, item_refused, item_value)
