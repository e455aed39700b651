-- Laws of parts of a file, and of the tests on one entry.
use Rattle.std.specs.Ordering.{is_lt}
use mathlib.Core.Path.{◌≡◌, sym, ◌∙◌, ap, ap₂}
use mathlib.Core.Bool.{Bool, true, false}
use mathlib.Core.List.{List, []}
use Prim.Native.Nat.{ℕ, ◌+◌, ◌-◌, ◌≤◌, ◌<◌}
use native.Mathlib.Nat.{add-sub_cancel_left}
use native.Mathlib.Omega.{arith}
use lib.Dec.{leb, ltb}
use lib.ListN.{length, take, drop, length-drop, drop_of_length-le}
use lib.Seq.{take_all, take-nil}
use Rattle.format.specs.Keys.{order, below}
use Rattle.format.specs.Entries.{key_in_def}
use Rattle.format.specs.Tables.{in_file}
use Rattle.std.specs.declared.cmp.Ordering.{Ordering}
use Rattle.format.specs.declared.PairEntry.{PairEntry}
use Rattle.fitness.specs.Parts.{bytes_at, fit_one}

-- a part that may leave the file
module _ (f : List ℕ) (a n : ℕ) where
  pub part_none : length f ≤ a → [] ≡ bytes_at f a n
  unfolding bytes_at
  part_none h = sym (ap (take n) (drop_of_length-le f h) ∙ take-nil n)

  pub part_rest : length f - a < n → take (length f - a) (drop a f) ≡ bytes_at f a n
  unfolding bytes_at
  part_rest h =
      let l : length (drop a f) ≡ length f - a = length-drop a f in
      take_all (length f - a) (drop a f) (omega arith) ∙ sym (take_all n (drop a f) (omega arith))

  pub part_all : take (a + n - a) (drop a f) ≡ bytes_at f a n
  unfolding bytes_at
  part_all = ap (λ (k : ℕ). take k (drop a f)) (add-sub_cancel_left a n)

pub ruleset parts = (part_none, part_rest, part_all)

-- an entry in the file
module _ (f : List ℕ) (e : PairEntry) (k : Bool) (is : k ≡ leb (e.key + e.klen) (length f)) where
  pub key_out : k ≡ false → k ≡ in_file f e
  unfolding in_file
  key_out q = q ∙ rw (sym is ∙ q)

  module _ (q : k ≡ true) (v : Bool) (also : v ≡ leb (e.value + e.vlen) (length f)) where
    pub value_out : v ≡ false → v ≡ in_file f e
    unfolding in_file
    value_out w = w ∙ rw (sym is ∙ q, sym also ∙ w)

    pub both_in : v ≡ true → ltb 0 e.klen ≡ in_file f e
    unfolding in_file
    both_in w = rw (sym is ∙ q, sym also ∙ w)

pub ruleset inside = (key_out, value_out, both_in)

-- an entry behind another
module _ (f : List ℕ) (last e : PairEntry) (i : Bool) (is : i ≡ in_file f e) where
  pub one_out : i ≡ false → i ≡ fit_one f last e
  unfolding fit_one
  one_out q = q ∙ rw (sym is ∙ q)

  pub one_in : i ≡ true → (r : Bool) (o : Ordering) (a b : List ℕ) → r ≡ is_lt o → o ≡ order a b → a ≡ key_in_def f last → b ≡ key_in_def f e
      → r ≡ fit_one f last e
  unfolding fit_one below
  one_in q r o a b er eo ea eb = er ∙ ap is_lt (eo ∙ ap₂ order ea eb) ∙ sym (rw (sym is ∙ q))

pub ruleset ones = (one_out, one_in)
