-- The item by numbers, as the code answers it, shows the item of the format's reading.
use mathlib.Core.Path.{◌≡◌, refl, ◌∙◌, ap}
use mathlib.Core.List.{List}
use Prim.Native.Nat.{ℕ, ◌+◌}
use native.Mathlib.Nat.{add-sub_cancel_left}
use lib.Dec.{leb, eqb}
use lib.ListN.{length, take, drop}
use lib.Seq.{drop-drop}
use Rattle.format.specs.Tests.{pick}
use Rattle.format.specs.Compact.{size}
use Rattle.format.specs.Keys.{order}
use Rattle.format.specs.Rules.{rule}
use Rattle.format.specs.Reading as R
use Rattle.format.specs.Reading.{ruled, valued, risen, keyed, item_by_def, item}
use Rattle.format.specs.declared.PsbtError.TheVariants.{UnexpectedEof}
use Rattle.std.specs.declared.cmp.Ordering.{Ordering}
use Rattle.format.specs.Answers.{Ruled, Size}
use Rattle.std.specs.declared.cmp.Ordering.TheVariants.{Less, Equal, Greater}
use Rattle.std.specs.Prelude.{Ok, Err}
use Rattle.format.proofs.Tests.{pick_ap}
use Rattle.parsed_map.specs.Fronts.{head_by, head_of, order_rule, ruled_at, value_by, value_of, risen_at, item_at, item_of, HeadRead}
use Rattle.parsed_map.specs.Shown.{pair_at, shown}

module _ (k : ℕ) (s : List ℕ) (a l : ℕ) where
  ruled_twin : (b v : ℕ) (y : Ruled) → shown s (ruled_at a l b v y) ≡ ruled (pair_at s a l b v) (drop (b + v) s) y
  unfolding shown ruled_at ruled
  ruled_twin b v (Ok u) = refl
  ruled_twin b v (Err e) = refl

  value_twin : (y : Size) → shown s (value_by k s a l y) ≡ valued (rule k) (take a s) (take l (drop a s)) (drop (a + l) s) y
  unfolding shown value_by valued pair_at
  value_twin (Err e) = refl
  value_twin (Ok r) =
      pick_ap (shown s) (leb r.value (length (drop (a + l + r.used) s))) _ _
      ∙ rw (
        ruled_twin (a + l + r.used) r.value (rule k (take l (drop a s)) (take r.value (drop (a + l + r.used) s))),
        add-sub_cancel_left (a + l) r.used,
        drop-drop r.used (a + l) s,
        drop-drop r.value (a + l + r.used) s,
      )

  risen_twin : (o : Ordering) → shown s (risen_at k s a l (order_rule o)) ≡ risen (rule k) (take a s) (take l (drop a s)) (drop (a + l) s) o
  unfolding shown risen_at order_rule risen value_of
  risen_twin Less = value_twin (size (drop (a + l) s))
  risen_twin Equal = refl
  risen_twin Greater = refl

pub twin : (k : ℕ) (last s : List ℕ) → shown s (item_of k last s) ≡ item (rule k) last s
unfolding item_of head_of head_by item_at item item_by_def keyed shown
twin k last s = by (size s)
  where
    by : (y : Size) → shown s (item_at k last s (head_by s y)) ≡ item_by_def (rule k) last s y
    by (Err e) = refl
    by (Ok r) =
        pick_ap (λ (h : HeadRead). shown s (item_at k last s h)) (eqb r.value 0) _ _
        ∙ ap (pick (eqb r.value 0) (R.over (take r.used s) (drop r.used s)))
        (pick_ap (λ (h : HeadRead). shown s (item_at k last s h)) (leb r.value (length (drop r.used s))) _ _
        ∙ rw (drop-drop r.value r.used s)
        (ap (λ (x : R.Item). pick (leb r.value (length (drop r.used s))) x (R.stop UnexpectedEof))
        (risen_twin k s r.used r.value (order last (take r.value (drop r.used s))))))
