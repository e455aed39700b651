-- Laws of choices by a test, and the sets of them that proofs search.
use mathlib.Core.Path.{◌≡◌, refl, sym, ◌∙◌}
use mathlib.Core.Bool.{Bool, true, false, ◌&&◌}
use Prim.Native.Nat.{ℕ}
use native.Mathlib.Omega.{arith}
use borrow.Author.Tests.{lt-ltb, le-ltb, le-leb, lt-leb, eq-eqb, ne_eqb}
use Rattle.format.specs.Tests.{pick}

pub pick_yes : {A : Type 0} (t : Bool) (a b : A) → t ≡ true → pick t a b ≡ a
pick_yes t a b h = rw h

pub pick_no : {A : Type 0} (t : Bool) (a b : A) → t ≡ false → pick t a b ≡ b
pick_no t a b h = rw h

pub ruleset tests = (lt-ltb, le-ltb, le-leb, lt-leb, eq-eqb, ne_eqb, pick_yes, pick_no)

-- anything of a choice, from both arms
pub pick_by : {A : Type 0} (P : A → Type 0) (t : Bool) (a b : A) → (t ≡ true → P a) → (t ≡ false → P b) → P (pick t a b)
pick_by P true a b x y = x refl
pick_by P false a b x y = y refl

-- a relation of two choices by one test
pub pick_two : {A : Type 0} (P : A → A → Type 0) (t : Bool) (a b a' b' : A) → P a a' → P b b' → P (pick t a b) (pick t a' b')
pick_two P true a b a' b' x y = x
pick_two P false a b a' b' x y = y

-- a function of a choice
pub pick_ap : {A B : Type 0} (f : A → B) (t : Bool) (a b : A) → f (pick t a b) ≡ pick t (f a) (f b)
pick_ap f true a b = refl
pick_ap f false a b = refl

pub never_true : {A : Type 0} → ◌≡◌ {A = Bool} false true → A
never_true e = let z : ◌≡◌ {A = ℕ} 0 1 = cc in absurd (omega arith)

pub and_left : (a b : Bool) → (a && b) ≡ true → a ≡ true
and_left true b e = refl
and_left false b e = never_true e

pub and_right : (a b : Bool) → (a && b) ≡ true → b ≡ true
and_right true b e = e
and_right false b e = never_true e

-- not both
pub clash : {A : Type 0} (t : Bool) → t ≡ true → t ≡ false → A
clash t p q = never_true (sym q ∙ p)

pub no_by : (t : Bool) → (t ≡ true → ⊥) → t ≡ false
no_by true h = absurd (h refl)
no_by false h = refl
