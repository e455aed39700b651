-- Laws of what inputs ask for: gathered input by input it decides what the definition decides by lists.
use mathlib.Core.Path.{◌≡◌, refl, sym, ◌∙◌, ap}
use mathlib.Core.Bool.{Bool, true, false, ◌||◌}
use mathlib.Core.List.{List, [], ◌∷◌, ◌++◌}
use Prim.Native.Nat.{ℕ, ◌+◌}
use lib.Dec.{ltb}
use Rattle.std.specs.Prelude.{Option, None, Some}
use Rattle.format.specs.Tests.{pick, keep_if}
use Rattle.format.specs.Locks as D
use Rattle.format.specs.Locks.{Sized, missing, misfit, is, In, along, asked_by_def, heights, times, is_misfit, misfit_by, misfits, greatest, well_formed}
use Rattle.format.specs.Locks.{decide}
use Rattle.format.specs.Answers.{Maybe}
use Rattle.lock.specs.declared.Wish.{Wish}
use Rattle.lock.specs.declared.Most.{Most}
use Rattle.lock.specs.declared.Asks.{Asks}
use Rattle.lock.specs.Asks.{wish_of, is_wrong, raised, topped_by, fault_by, seen, seen_in, no_asks, walk, height_by, time_by, decide_kinds, decide_by}
use Rattle.lock.specs.Asks.{decide_asks}

-- a kind with further numbers asked for
unfoldable topped : Option Most → List D.Asked → Option Most
topped k [] = k
topped k (a ∷ more) = topped (raised k a.number a.input) more

-- the first fault, then those of a list
unfoldable faulted : Option ℕ → List ℕ → Option ℕ
faulted c [] = c
faulted (Some j) (i ∷ more) = Some j
faulted None (i ∷ more) = Some i

top_one : (k : Option Most) (x : Sized) (i : ℕ) (more : List D.Asked) → topped k (asked_by_def x i ++ more) ≡ topped (topped_by k (wish_of x) i) more
unfolding topped asked_by_def topped_by wish_of
top_one k missing i more = refl
top_one k misfit i more = refl
top_one k (is v) i more = refl

wrong_is : (x : Sized) → is_wrong (wish_of x) ≡ is_misfit x
unfolding wish_of is_wrong is_misfit
wrong_is missing = refl
wrong_is misfit = refl
wrong_is (is v) = refl

fault_stays : (j : ℕ) (more : List ℕ) → faulted (Some j) more ≡ Some j
unfolding faulted
fault_stays j [] = refl
fault_stays j (i ∷ more) = refl

fault_one : (c : Option ℕ) (h t : Wish) (i : ℕ) (more : List ℕ) → faulted c (keep_if (is_wrong h || is_wrong t) i [] ++ more) ≡ faulted (fault_by c h t i) more
unfolding faulted fault_by
fault_one (Some j) h t i more = fault_stays j (keep_if (is_wrong h || is_wrong t) i [] ++ more) ∙ sym (fault_stays j more)
fault_one None h t i more = by (is_wrong h || is_wrong t)
  where
    by : (b : Bool) → faulted None (keep_if b i [] ++ more) ≡ faulted (pick b (Some i) None) more
    by true = sym (fault_stays i more)
    by false = refl

-- what a walk gathers, by lists
walk_is : (a : Asks) (i : ℕ) (xs : List In)
    → walk a i xs ≡ record { fault = faulted a.fault (misfits i xs); height = topped a.height (heights i xs); time = topped a.time (times i xs) }
unfolding walk seen_in seen misfits misfit_by heights times along topped faulted
walk_is a i [] = refl
walk_is a i (x ∷ xs) =
    rw (
      ← wrong_is x.height,
      ← wrong_is x.time,
      fault_one a.fault (wish_of x.height) (wish_of x.time) i (misfits (i + 1) xs),
      top_one a.height x.height i (heights (i + 1) xs),
      top_one a.time x.time i (times (i + 1) xs),
    )
    (walk_is (seen_in a i x) (i + 1) xs)

-- input j asks first, and a asks for the most
abbrev mostly : ℕ → D.Asked → Option Most
mostly j a = Some (record { first = j; number = a.number; input = a.input })

-- of numbers asked for, the first and the greatest
top_greatest : (j : ℕ) (a : D.Asked) (more : List D.Asked) → topped (mostly j a) more ≡ mostly j (greatest a more)
unfolding topped raised greatest
top_greatest j a [] = refl
top_greatest j a (b ∷ more) = by (ltb a.number b.number) (top_greatest j a more) (top_greatest j b more)
  where
    by : (t : Bool) → topped (mostly j a) more ≡ mostly j (greatest a more) → topped (mostly j b) more ≡ mostly j (greatest b more)
        → topped (pick t (mostly j b) (mostly j a)) more ≡ mostly j (greatest (pick t b a) more)
    by true p q = q
    by false p q = p

kinds_are : (fallback : Maybe) (hs ts : List D.Asked) → decide_kinds (D.or_zero fallback) (topped None hs) (topped None ts) ≡ D.decide_by fallback hs ts
unfolding decide_kinds height_by time_by D.decide_by topped raised
kinds_are fallback [] [] = refl
kinds_are fallback (h ∷ hs) [] = rw (top_greatest h.input h hs)
kinds_are fallback [] (t ∷ ts) = rw (top_greatest t.input t ts)
kinds_are fallback (h ∷ hs) (t ∷ ts) = rw (top_greatest h.input h hs, top_greatest t.input t ts)

lists_are : (fallback : Maybe) (ms : List ℕ) (hs ts : List D.Asked)
    → decide_asks fallback (record { fault = faulted None ms; height = topped None hs; time = topped None ts })
    ≡ well_formed ms (D.decide_by fallback hs ts)
unfolding decide_asks decide_by well_formed faulted
lists_are fallback [] hs ts = kinds_are fallback hs ts
lists_are fallback (i ∷ more) hs ts = refl

-- the rule over what was gathered is the rule
pub decides : (fallback : Maybe) (ins : List In) → decide_asks fallback (walk no_asks 0 ins) ≡ decide fallback ins
unfolding decide
decides fallback ins = ap (decide_asks fallback) (walk_is no_asks 0 ins) ∙ lists_are fallback (misfits 0 ins) (heights 0 ins) (times 0 ins)
