-- What the answer on the lock says of the inputs is true.
use mathlib.Core.Path.{◌≡◌, refl, ap, subst}
use mathlib.Core.Bool.{Bool, true, false, ◌||◌}
use mathlib.Core.List.{List, [], ◌∷◌, ◌++◌}
use Prim.Native.Nat.{ℕ, suc, ◌+◌, ◌≤◌}
use native.Mathlib.Omega.{arith}
use borrow.Author.Tests.{ltb-true, ltb-false, leb-true, leb-false}
use lib.Dec.{ltb, leb}
use Rattle.format.specs.Tests.{pick, keep_if}
use Rattle.format.specs.Locks.{Sized, missing, misfit, is, In, Asked, threshold, along, asked_by_def, heights, times, is_misfit}
use Rattle.format.specs.Locks.{misfit_by, misfits, greatest, height_lock, time_lock, decide_by, well_formed, decide}
use Rattle.format.specs.Answers.{Decided, Maybe}
use Rattle.format.proofs.Tests.{pick_by, never_true}
use Rattle.format.proofs.Numbers.{All, all_split}
use Rattle.claims_lock.specs.Honours.{Spells, AsksHeight, AsksTime, IsMalformed, At, AskedAt, EachAsked, NoneAsked, WellFormed, Greatest, Says}

module _ {A : Type 0} (P : A → Type 0) where
  all_join : (xs ys : List A) → All P xs → All P ys → All P (xs ++ ys)
  all_join [] ys h k = k
  all_join (x ∷ xs) ys h k = (h.0, all_join xs ys h.1 k)

  -- a walk finds only what it finds at some input, and all of that
  along_only : (f : In → ℕ → List A) (i : ℕ) (xs : List In) → ((j : ℕ) (x : In) → At xs j x → All P (f x (i + j))) → All P (along f i xs)
  unfolding along
  along_only f i [] h = tt
  along_only f i (y ∷ ys) h =
      let z : i + 0 ≡ i = omega arith in
      all_join (f y i) (along f (i + 1) ys) (rw z at (h 0 y refl))
      (along_only f (i + 1) ys (λ j x a. let e : i + 1 + j ≡ i + suc j = omega arith in rw e (h (suc j) x a)))

  along_all : (f : In → ℕ → List A) (Q : In → Type 0) → ((j : ℕ) (x : In) → All P (f x j) → Q x) → (i : ℕ) (xs : List In) → All P (along f i xs) → All Q xs
  unfolding along
  along_all f Q k i [] h = tt
  along_all f Q k i (y ∷ ys) h = let s = all_split P (f y i) (along f (i + 1) ys) h in (k i y s.0, along_all f Q k (i + 1) ys s.1)

-- at an input: the number that a field spells
asked_only : (P : Asked → Type 0) (f : Sized) (i : ℕ) → ((n : ℕ) → Spells f n → P (record { number = n; input = i })) → All P (asked_by_def f i)
unfolding asked_by_def
asked_only P missing i h = tt
asked_only P misfit i h = tt
asked_only P (is v) i h = (h _ refl, tt)

asked_all : (P : ℕ → Type 0) (f : Sized) (i : ℕ) → All (λ a. P a.number) (asked_by_def f i) → (n : ℕ) → Spells f n → P n
unfolding asked_by_def
asked_all P missing i h n e = absurd e
asked_all P misfit i h n e = absurd e
asked_all P (is v) i h n e = subst P e h.0

-- and its number, where the test holds
kept_only : (P : ℕ → Type 0) (t : Bool) (i : ℕ) → (t ≡ true → P i) → All P (keep_if t i [])
kept_only P true i h = (h refl, tt)
kept_only P false i h = tt

kept_all : (t : Bool) (i : ℕ) → All (λ i. ⊥) (keep_if t i []) → t ≡ true → ⊥
kept_all true i h e = h.0
kept_all false i h e = never_true e

-- the numbers in a list are those that the inputs ask for
record Lists (asks : In → ℕ → Type 0) (ins : List In) (l : List Asked) : Type 1 where
  only : All (λ a. AskedAt asks a.number a.input ins) l
  all : (P : ℕ → Type 0) → All (λ a. P a.number) l → EachAsked asks P ins

lists : (field : In → Sized) (ins : List In) → Lists (λ x. Spells (field x)) ins (along (λ x. asked_by_def (field x)) 0 ins)
lists field ins = record {
  only = along_only _ _ 0 ins (λ j x a. asked_only _ (field x) (0 + j) (λ n e. let z : 0 + j ≡ j = omega arith in (x, rw z a, e)));
  all = λ P. along_all _ _ _ (λ j x. asked_all P (field x) j) 0 ins;
}

greatest_is : (P : Asked → Type 0) (a : Asked) (l : List Asked) → All P (a ∷ l) → P (greatest a l)
unfolding greatest
greatest_is P a [] h = h.0
greatest_is P a (b ∷ l) h =
    greatest_is P (pick (ltb a.number b.number) b a) l (pick_by P (ltb a.number b.number) b a (λ q. h.1.0) (λ q. h.0), h.1.1)

greatest_most : (a : Asked) (l : List Asked) → All (λ b. b.number ≤ (greatest a l).number) (a ∷ l)
unfolding greatest
greatest_most a [] = (omega arith, tt)
greatest_most a (b ∷ l) =
    let c : Asked = pick (ltb a.number b.number) b a in
    let h = greatest_most c l in
    let m : (a.number ≤ c.number) × (b.number ≤ c.number) =
    pick_by (λ (c : Asked). (a.number ≤ c.number) × (b.number ≤ c.number)) (ltb a.number b.number) b a
    (λ q. (omega (arith, ltb-true a.number b.number q), omega arith)) (λ q. (omega arith, ltb-false a.number b.number q)) in
    (omega (arith, h.0, m.0), (omega (arith, h.0, m.1), h.1))

is_greatest : {asks others : In → ℕ → Type 0} {ins : List In} {a : Asked} {l : List Asked} → Lists asks ins (a ∷ l) → Lists others ins []
    → Greatest asks others (greatest a l).number (greatest a l).input ins
is_greatest {asks} {others} {ins} {a} {l} k o = record {
  there = greatest_is (λ b. AskedAt asks b.number b.input ins) a l k.only;
  most = k.all (λ m. m ≤ (greatest a l).number) (greatest_most a l);
  alone = o.all (λ n. ⊥) tt;
}

module _ (fallback : Maybe) (ins : List In) where
  says_by : (hs ts : List Asked) → Lists AsksHeight ins hs → Lists AsksTime ins ts → WellFormed ins → Says fallback ins (decide_by fallback hs ts)
  unfolding decide_by height_lock time_lock
  says_by [] [] h t w = (w, h.all (λ n. ⊥) tt, t.all (λ n. ⊥) tt, refl)
  says_by (a ∷ hs) [] h t w =
      let g = is_greatest h t in
      pick_by (Says fallback ins) (ltb (greatest a hs).number threshold) _ _ (λ q. (w, g, ltb-true _ _ q)) (λ q. (w, g, ltb-false _ _ q))
  says_by [] (a ∷ ts) h t w =
      let g = is_greatest t h in
      pick_by (Says fallback ins) (leb threshold (greatest a ts).number) _ _ (λ q. (w, g, leb-true _ _ q)) (λ q. (w, g, leb-false _ _ q))
  says_by (a ∷ hs) (b ∷ ts) h t w = (w, (a.number, h.only.0), (b.number, t.only.0))

  says_formed : (ms : List ℕ) (l : Decided) → All (λ i. (x : In) × At ins i x × IsMalformed x) ms
      → (ms ≡ [] → Says fallback ins l) → Says fallback ins (well_formed ms l)
  unfolding well_formed
  says_formed [] l h k = k refl
  says_formed (i ∷ ms) l h k = h.0

  -- an answer is true
  pub decided : (l : Decided) → decide fallback ins ≡ l → Says fallback ins l
  unfolding decide heights times misfits misfit_by
  decided l e = subst (Says fallback ins) e
      (says_formed (misfits 0 ins) (decide_by fallback (heights 0 ins) (times 0 ins))
      (along_only _ misfit_by 0 ins
      (λ j x a. kept_only _ (is_misfit x.height || is_misfit x.time) (0 + j) (λ m. let z : 0 + j ≡ j = omega arith in rw z (x, a, m))))
      (λ n. says_by (heights 0 ins) (times 0 ins) (lists (λ x. x.height) ins) (lists (λ x. x.time) ins)
      (along_all (λ i. ⊥) misfit_by _ (λ j x. kept_all (is_misfit x.height || is_misfit x.time) j) 0 ins (rw n tt))))

-- the fallback is not heard unless no input asks
module _ (fallback other : Maybe) (ins : List In) (some : NoneAsked AsksHeight ins → NoneAsked AsksTime ins → ⊥) where
  unheard_by : (hs ts : List Asked) → Lists AsksHeight ins hs → Lists AsksTime ins ts → decide_by fallback hs ts ≡ decide_by other hs ts
  unfolding decide_by
  unheard_by [] [] h t = absurd (some (h.all (λ n. ⊥) tt) (t.all (λ n. ⊥) tt))
  unheard_by (a ∷ hs) [] h t = refl
  unheard_by [] (a ∷ ts) h t = refl
  unheard_by (a ∷ hs) (b ∷ ts) h t = refl

  pub unheard : decide fallback ins ≡ decide other ins
  unfolding decide heights times
  unheard = ap (well_formed (misfits 0 ins)) (unheard_by (heights 0 ins) (times 0 ins) (lists (λ x. x.height) ins) (lists (λ x. x.time) ins))
