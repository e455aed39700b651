-- Laws of lists of assignments: records among numbers, and what a walk over a list finds, in the definitions' words.
use Rattle.std.proofs.Common.{◌≡◌, ℕ, ◌-◌, ◌^◌, ◌<◌, ◌≤◌, List, [], ◌∷◌, Bool, true, false, ◌&&◌}
use Rattle.std.proofs.Common.{cond, Option, Some, length, take, drop, take_all, get_or, refl, sym, ap, ◌∙◌, arith}
use Rattle.std.specs.Iterator.{YieldsFirst}
use Rattle.std.proofs.lemmas.Iterator.{YieldsList}
use Rattle.std.proofs.lemmas.Iterator.Consumers.{YieldsList-from_first}
use Rattle.std.specs.List.{list_all, find, filter}
use lib.Dec.{eqb}
use Rattle.format.specs.Tests.{keep_if, only, every}
use Rattle.format.specs.Scripts.{named}
use Rattle.format.specs.declared.Assignment.{Assignment}
use Rattle.setter.specs.Records.{records, first_of}
use Rattle.setter.specs.declared.assignments.Held.{Held}

-- numbers too few for a record
pub records_none : (l : List ℕ) → length l < 3 → records l ≡ []
unfolding records
records_none [] h = refl
records_none (a ∷ []) h = refl
records_none (a ∷ b ∷ []) h = refl
records_none (a ∷ b ∷ c ∷ l) h = absurd (omega arith)

-- the first record, and those behind it
pub records_some : (l : List ℕ) → 3 ≤ length l
    → records l ≡ record { output = get_or l 0 0; start = get_or l 1 0; len = get_or l 2 0 } ∷ records (take (length l - 3) (drop 3 l))
unfolding records
records_some [] h = absurd (omega arith)
records_some (a ∷ []) h = absurd (omega arith)
records_some (a ∷ b ∷ []) h = absurd (omega arith)
records_some (a ∷ b ∷ c ∷ l) h =
    let q : length (a ∷ b ∷ c ∷ l) - 3 ≡ length l = omega arith in
    ap (λ (r : List ℕ). record { output = a; start = b; len = c } ∷ records r) (sym (ap (λ (n : ℕ). take n l) q ∙ take_all (length l) l (omega arith)))

-- a walk over a list gives what it holds
pub held_yields : {L : Type 0} (held : L → List Assignment) (s : Held L)
    → YieldsList (YieldsFirst (λ (t : Held L). held t.list)) (λ (a : Assignment). a) s (held s.list)
held_yields held s = YieldsList-from_first (λ (a : Assignment). a) (λ (t : Held _). held t.list) (held s.list) refl

-- all of a list pass a test
list_all_every : (t : Assignment → Bool) (xs : List Assignment) → list_all t xs ≡ every t xs
unfolding every
list_all_every t [] = refl
list_all_every t (x ∷ xs) = ap (λ (b : Bool). t x && b) (list_all_every t xs)

pub all_pass : (t : Assignment → Bool) (xs : List Assignment) (b : Bool) → b ≡ list_all t xs → b ≡ every t xs
all_pass t xs b e = e ∙ list_all_every t xs

-- one that is kept in front of others
cond_keeps : (b : Bool) (x : Assignment) (xs : List Assignment) → cond b (x ∷ xs) xs ≡ keep_if b x xs
cond_keeps true x xs = refl
cond_keeps false x xs = refl

filter_keeps : (t : Assignment → Bool) (xs : List Assignment) → filter t xs ≡ only t xs
unfolding only
filter_keeps t [] = refl
filter_keeps t (x ∷ xs) = cond_keeps (t x) x (filter t xs) ∙ ap (keep_if (t x) x) (filter_keeps t xs)

-- those that name an output
pub all_named : (i : ℕ) (xs : List Assignment) (n : ℕ) → n ≡ length (filter (λ (a : Assignment). eqb a.output i) xs) → n ≡ length (named i xs)
unfolding named
all_named i xs n e = e ∙ ap length (filter_keeps (λ (a : Assignment). eqb a.output i) xs)

-- those that name an output, as far as two
pub two_named : (i : ℕ) (xs : List Assignment) (n : ℕ) → n ≡ length (take 2 (filter (λ (a : Assignment). eqb a.output i) xs)) → n ≡ length (take 2 (named i xs))
unfolding named
two_named i xs n e = e ∙ ap (λ (ys : List Assignment). length (take 2 ys)) (filter_keeps (λ (a : Assignment). eqb a.output i) xs)

-- records are no more than the numbers that they are read from
records_few : (l : List ℕ) → length (records l) ≤ length l
unfolding records
records_few [] = omega arith
records_few (a ∷ []) = omega arith
records_few (a ∷ b ∷ []) = omega arith
records_few (a ∷ b ∷ c ∷ l) = let q : length (records l) ≤ length l = records_few l in omega (arith, q)

pub records_fit : (l : List ℕ) → length l < 2 ^ 64 → length (records l) < 2 ^ 64
records_fit l h = omega (arith, records_few l)

-- the first that passes a test
cond_first : (b : Bool) (x : Assignment) (xs : List Assignment) → cond b (Some x) (first_of xs) ≡ first_of (keep_if b x xs)
unfolding first_of
cond_first true x xs = refl
cond_first false x xs = refl

find_only : (t : Assignment → Bool) (xs : List Assignment) → find t xs ≡ first_of (only t xs)
unfolding only first_of
find_only t [] = refl
find_only t (x ∷ xs) = ap (cond (t x) (Some x)) (find_only t xs) ∙ cond_first (t x) x (only t xs)

pub find_named : (i : ℕ) (xs : List Assignment) (o : Option Assignment) → o ≡ find (λ (a : Assignment). eqb a.output i) xs → o ≡ first_of (named i xs)
unfolding named
find_named i xs o e = e ∙ find_only (λ (a : Assignment). eqb a.output i) xs
