-- The order of keys is a strict total order.
use Rattle.std.specs.Ordering.{is_lt, is_eq}
use mathlib.Core.Path.{◌≡◌, refl, sym, ◌∙◌}
use mathlib.Core.List.{List, [], ◌∷◌}
use mathlib.Core.Bool.{true}
use Prim.Native.Nat.{ℕ, ◌<◌}
use native.Mathlib.Omega.{arith}
use borrow.Author.Tests.{ltb-true, ltb-false, lt-ltb, le-ltb}
use lib.Dec.{ltb}
use Rattle.format.specs.Keys.{order, below, same}
use Rattle.std.specs.declared.cmp.Ordering.{Ordering}
use Rattle.std.specs.declared.cmp.Ordering.TheVariants.{Less, Equal, Greater}
use Rattle.format.proofs.Tests.{pick_by, never_true}

-- each key is the same as itself
pub order_self : (a : List ℕ) → order a a ≡ Equal
unfolding order
order_self [] = refl
order_self (x ∷ a) = rw (le-ltb x x (omega arith)) (order_self a)

-- what a first byte and the rest of two keys say of them
pub order_by : {R : Type 0} (x y : ℕ) (a b : List ℕ) (o : Ordering) → order (x ∷ a) (y ∷ b) ≡ o
    → (x < y → o ≡ Less → R) → (y < x → o ≡ Greater → R) → (x ≡ y → order a b ≡ o → R) → R
unfolding order
order_by {R} x y a b o e f g h =
    pick_by (λ (z : Ordering). z ≡ o → R) (ltb x y) _ _ (λ q w. f (ltb-true x y q) (sym w))
    (λ q. pick_by (λ (z : Ordering). z ≡ o → R) (ltb y x) _ _ (λ t w. g (ltb-true y x t) (sym w))
    (λ t w. h (omega (arith, ltb-false x y q, ltb-false y x t)) w)) e

-- two keys that are the same are one
pub order_same : (a b : List ℕ) → order a b ≡ Equal → a ≡ b
unfolding order
order_same [] [] e = refl
order_same [] (y ∷ b) e = let z : ◌≡◌ {A = ℕ} 0 1 = cc in absurd (omega arith)
order_same (x ∷ a) [] e = let z : ◌≡◌ {A = ℕ} 0 1 = cc in absurd (omega arith)
order_same (x ∷ a) (y ∷ b) e =
    order_by x y a b Equal e (λ l w. let z : ◌≡◌ {A = ℕ} 0 1 = cc in absurd (omega arith)) (λ l w. let z : ◌≡◌ {A = ℕ} 0 1 = cc in absurd (omega arith))
    (λ l w. let k = order_same a b w in cc)

-- below one way is above the other way
unfoldable pub turned : Ordering → Ordering
turned Less = Greater
turned Equal = Equal
turned Greater = Less

pub order_turned : (a b : List ℕ) → order b a ≡ turned (order a b)
unfolding order turned
order_turned [] [] = refl
order_turned [] (y ∷ b) = refl
order_turned (x ∷ a) [] = refl
order_turned (x ∷ a) (y ∷ b) =
    order_by x y a b (order (x ∷ a) (y ∷ b)) refl
    (λ l w. rw (le-ltb y x (omega arith), lt-ltb x y l))
    (λ l w. rw (lt-ltb y x l, le-ltb x y (omega arith)))
    (λ l w. rw (le-ltb y x (omega arith), le-ltb x y (omega arith)) (order_turned a b))

rises_lt : (x y : ℕ) (a b : List ℕ) → x < y → order (x ∷ a) (y ∷ b) ≡ Less
unfolding order
rises_lt x y a b h = rw (lt-ltb x y h)

rises_eq : (x y : ℕ) (a b : List ℕ) → x ≡ y → order a b ≡ Less → order (x ∷ a) (y ∷ b) ≡ Less
unfolding order
rises_eq x y a b h e = rw (le-ltb x y (omega arith), le-ltb y x (omega arith)) e

-- the first byte of a lower key is no greater
pub rises_by : {R : Type 0} (x y : ℕ) (a b : List ℕ) → order (x ∷ a) (y ∷ b) ≡ Less → (x < y → R) → (x ≡ y → order a b ≡ Less → R) → R
rises_by x y a b e f g = order_by x y a b Less e (λ l w. f l) (λ l w. let z : ◌≡◌ {A = ℕ} 0 1 = cc in absurd (omega arith)) g

pub order_trans : (a b c : List ℕ) → order a b ≡ Less → order b c ≡ Less → order a c ≡ Less
unfolding order
order_trans [] [] c h k = k
order_trans [] (y ∷ b) [] h k = let w : ◌≡◌ {A = ℕ} 0 1 = cc in absurd (omega arith)
order_trans [] (y ∷ b) (z ∷ c) h k = refl
order_trans (x ∷ a) [] c h k = let w : ◌≡◌ {A = ℕ} 0 1 = cc in absurd (omega arith)
order_trans (x ∷ a) (y ∷ b) [] h k = let w : ◌≡◌ {A = ℕ} 0 1 = cc in absurd (omega arith)
order_trans (x ∷ a) (y ∷ b) (z ∷ c) h k =
    rises_by x y a b h
    (λ l. rises_by y z b c k (λ m. rises_lt x z a c (omega arith)) (λ m o. rises_lt x z a c (omega arith)))
    (λ l o. rises_by y z b c k (λ m. rises_lt x z a c (omega arith)) (λ m q. rises_eq x z a c (l ∙ m) (order_trans a b c o q)))

-- the two tests
pub same_is : (a b : List ℕ) → same a b ≡ true → a ≡ b
unfolding same
same_is a b e = by (order a b) refl e
  where
    by : (o : Ordering) → order a b ≡ o → is_eq o ≡ true → a ≡ b
    by Less q h = never_true h
    by Equal q h = order_same a b q
    by Greater q h = never_true h

pub same_self : (a : List ℕ) → same a a ≡ true
unfolding same
same_self a = rw (order_self a)

pub below_is : (a b : List ℕ) → below a b ≡ true → order a b ≡ Less
unfolding below
below_is a b e = by (order a b) e
  where
    by : (o : Ordering) → is_lt o ≡ true → o ≡ Less
    by Less h = refl
    by Equal h = never_true h
    by Greater h = never_true h
