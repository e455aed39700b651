-- Laws of what is right: one output, all of them, and the list that is given.
use mathlib.Core.Path.{◌≡◌, refl, sym, ◌∙◌, ap}
use mathlib.Core.Bool.{Bool, true, false, ◌&&◌}
use mathlib.Core.List.{List, [], ◌∷◌}
use Prim.Native.Nat.{ℕ, ◌+◌, ◌%◌, ◌≤◌, ◌<◌}
use native.Mathlib.Numerals.{add-one}
use native.Mathlib.Omega.{arith}
use lib.Dec.{eqb}
use borrow.Author.Tests.{ne_eqb, eqb-true, eqb-false}
use lib.ListN.{length, take, drop, drop_of_length-le}
use Rattle.format.specs.Tests.{every}
use Rattle.format.specs.Content.{present}
use Rattle.format.specs.Scripts.{Out, allowed, named, served, whole, cut_short, and_more, flat, right_for, settable}
use Rattle.format.specs.declared.MapEntry.{MapEntry}
use Rattle.format.specs.declared.Psbt.{Psbt}
use Rattle.format.specs.declared.State.{State}
use Rattle.format.specs.declared.Assignment.{Assignment}
use Rattle.entries.specs.Words.{pair_count, map_count, map_at}
use Rattle.all_maps_fit.specs.Alls.{out_at, outs_of}
use Rattle.all_maps_fit.specs.Places.{field_at, found_in_def, FoundAt}
use Rattle.std.specs.Prelude.{Some, None, is_some}
use Rattle.all_maps_fit.proofs.Runs.{from_length, from_here}
use Rattle.all_maps_fit.proofs.Gathers.{output_listed, output_usable}
use Rattle.all_maps_fit.proofs.Fields.{found_shows, out_script}
use Rattle.setter.specs.Records.{records}
use Rattle.setter.specs.Rights.{served_at, given_by, right_given, OutputOf}

-- what was found is present
found_present : (f : List ℕ) (x : FoundAt) → is_some x ≡ present (found_in_def f x)
unfolding present found_in_def
found_present f None = refl
found_present f (Some p) = refl

-- an output's map, and whether it has a script
module _ (f P M : List ℕ) (s : Psbt) (i : ℕ) (k : OutputOf f P M s i) where
  pub output_in : 1 + s.inputs + i < map_count M
  output_in = output_listed f P M s k.fits i k.less

  module _ (m : MapEntry) (e : m ≡ map_at M (1 + s.inputs + i)) where
    pub output_within : m.first + m.count ≤ pair_count P
    output_within = (output_usable f P M s k.fits i k.less m e).within

    pub script_there : (x : FoundAt) → x ≡ field_at f P 0x04 m → (b : Bool) → b ≡ is_some x → b ≡ present (out_at f P M s i).script
    script_there x is b q = q ∙ found_present f x ∙ ap present (out_script f P M s i m e (found_in_def f x) (found_shows f P 0x04 m x is))

pub ruleset scripts_there = (output_in, output_within, script_there)

-- one output
module _ (xs : List Assignment) (i : ℕ) (o : Out) (n : ℕ) (c : n ≡ length (named i xs)) (b : Bool) (is : b ≡ present o.script) where
  pub served_never : b ≡ true → eqb n 0 ≡ served_at xs i o
  unfolding served_at
  served_never q = rw (c, ← is, q)

  pub served_once : b ≡ false → eqb n 1 ≡ served_at xs i o
  unfolding served_at
  served_once q = rw (c, ← is, q)

-- never and once are known from the first two
two_never : (xs : List Assignment) → eqb (length (take 2 xs)) 0 ≡ eqb (length xs) 0
two_never [] = refl
two_never (a ∷ xs) = ne_eqb _ 0 (λ q. omega (arith, q)) ∙ sym (ne_eqb _ 0 (λ q. omega (arith, q)))

two_once : (xs : List Assignment) → eqb (length (take 2 xs)) 1 ≡ eqb (length xs) 1
two_once [] = refl
two_once (a ∷ []) = refl
two_once (a ∷ b ∷ xs) = sym (ne_eqb _ 1 (λ q. omega (arith, q)))

module _ (xs : List Assignment) (i : ℕ) (o : Out) (n : ℕ) (c : n ≡ length (take 2 (named i xs))) (b : Bool) (is : b ≡ present o.script) where
  pub never_in_two : b ≡ true → eqb n 0 ≡ served_at xs i o
  never_in_two q = rw (c, two_never (named i xs)) (served_never xs i o (length (named i xs)) refl b is q)

  pub once_in_two : b ≡ false → eqb n 1 ≡ served_at xs i o
  once_in_two q = rw (c, two_once (named i xs)) (served_once xs i o (length (named i xs)) refl b is q)

pub ruleset serves = (served_never, served_once, never_in_two, once_in_two)

-- whether the outputs from number i on are served is whether all are
abbrev pub Serving : List ℕ → List ℕ → List ℕ → Psbt → List Assignment → ℕ → Type 0
Serving f P M s xs i = served i (drop i (outs_of f P M s)) xs ≡ served 0 (outs_of f P M s) xs

module _ (f P M : List ℕ) (s : Psbt) (xs : List Assignment) (i : ℕ) (p : Serving f P M s xs i) where
  pub serve_done : s.outputs ≤ i → true ≡ served 0 (outs_of f P M s) xs
  unfolding served outs_of
  serve_done h =
      let m : length (outs_of f P M s) ≤ i = omega (arith, from_length (out_at f P M s) 0 s.outputs) in
      sym (ap (λ (os : List Out). served i os xs) (drop_of_length-le (outs_of f P M s) m)) ∙ p

  module _ (h : i < s.outputs) where
    here : drop i (outs_of f P M s) ≡ out_at f P M s i ∷ drop (i + 1) (outs_of f P M s)
    unfolding outs_of
    here = rw (add-one i) (from_here (out_at f P M s) i s.outputs h)

    module _ (b : Bool) (is : b ≡ served_at xs i (out_at f P M s i)) where
      turn : (b && served (i + 1) (drop (i + 1) (outs_of f P M s)) xs) ≡ served 0 (outs_of f P M s) xs
      unfolding served served_at
      turn = rw is (sym (ap (λ (os : List Out). served i os xs) here) ∙ p)

      pub serve_stop : b ≡ false → false ≡ served 0 (outs_of f P M s) xs
      serve_stop q = rw q at turn

      pub serve_more : b ≡ true → Serving f P M s xs (i + 1)
      serve_more q = rw q at turn

pub ruleset servings = (serve_done, serve_stop, serve_more)

-- a list of whole records, and one that ends inside a record
pub flat_whole : (l : List ℕ) → length l % 3 ≡ 0 → flat l ≡ whole (records l)
unfolding flat records and_more
flat_whole [] h = refl
flat_whole (a ∷ []) h = absurd (omega arith)
flat_whole (a ∷ b ∷ []) h = absurd (omega arith)
flat_whole (a ∷ b ∷ c ∷ l) h = rw (flat_whole l (omega arith))

pub flat_cut : (l : List ℕ) → (length l % 3 ≡ 0 → ⊥) → flat l ≡ cut_short
unfolding flat and_more
flat_cut [] h = absurd (h refl)
flat_cut (a ∷ []) h = refl
flat_cut (a ∷ b ∷ []) h = refl
flat_cut (a ∷ b ∷ c ∷ l) h = rw (flat_cut l (λ q. h (omega arith)))

-- a list of numbers, by whether it ends behind a record
pub flat_given : (l : List ℕ) → given_by (eqb (length l % 3) 0) (records l) ≡ flat l
flat_given l = by (eqb (length l % 3) 0) refl
  where
    by : (b : Bool) → eqb (length l % 3) 0 ≡ b → given_by b (records l) ≡ flat l
    by true q = sym (flat_whole l (eqb-true (length l % 3) 0 q))
    by false q = sym (flat_cut l (eqb-false (length l % 3) 0 q))

-- what is given is right, by each question
module _ (f P M : List ℕ) (s : Psbt) (xs : List Assignment) (buffer : List ℕ) (t : State) (w : Bool) where
  pub right_cut : w ≡ false → false ≡ right_given (outs_of f P M s) buffer t (given_by w xs)
  unfolding right_given
  right_cut e = rw e

  module _ (e : w ≡ true) where
    pub right_late : settable t ≡ false → false ≡ right_given (outs_of f P M s) buffer t (given_by w xs)
    unfolding right_given
    right_late q = rw (e, q)

    module _ (q : settable t ≡ true) where
      pub right_not : every (allowed s.outputs buffer) xs ≡ false → false ≡ right_given (outs_of f P M s) buffer t (given_by w xs)
      unfolding right_given right_for outs_of
      right_not k = rw (e, q, from_length (out_at f P M s) 0 s.outputs, k)

      pub right_by : every (allowed s.outputs buffer) xs ≡ true → served 0 (outs_of f P M s) xs ≡ right_given (outs_of f P M s) buffer t (given_by w xs)
      unfolding right_given right_for outs_of
      right_by k = rw (e, q, from_length (out_at f P M s) 0 s.outputs, k)
