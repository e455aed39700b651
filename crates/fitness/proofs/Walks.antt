-- Laws of walking the pairs of a map from its first to its end.
use mathlib.Core.Path.{◌≡◌, sym, ◌∙◌, ap}
use mathlib.Core.Bool.{Bool, true, false, ◌&&◌}
use mathlib.Core.List.{List, [], ◌∷◌}
use Prim.Native.Nat.{ℕ}
use Rattle.format.specs.Entries.{key_in_def}
use Rattle.format.specs.Tables.{fit}
use Rattle.format.specs.declared.PairEntry.{PairEntry}
use Rattle.format.specs.declared.MapEntry.{MapEntry}
use Rattle.entries.specs.Words.{no_pair}
use Rattle.fitness.specs.Fits.{entries_of}
use Rattle.fitness.specs.Parts.{fit_one}

-- what is asked of the pairs left, behind `last`, is what is asked of all
pub fit_first : (f P : List ℕ) (m : MapEntry) (left : List PairEntry) → left ≡ entries_of P m → fit f (key_in_def f no_pair) left ≡ fit f [] (entries_of P m)
unfolding key_in_def
fit_first f P m left is = ap (fit f []) is

module _ (f : List ℕ) (last : PairEntry) (left : List PairEntry) (all : Bool) (k : fit f (key_in_def f last) left ≡ all) where
  pub fit_done : left ≡ [] → true ≡ all
  unfolding fit
  fit_done q = sym (ap (fit f (key_in_def f last)) q) ∙ k

  module _ (e : PairEntry) (rest : List PairEntry) (is : left ≡ e ∷ rest) (r : Bool) (one : r ≡ fit_one f last e) where
    step : all ≡ (r && fit f (key_in_def f e) rest)
    unfolding fit fit_one
    step = sym k ∙ ap (fit f (key_in_def f last)) is ∙ rw (← one)

    pub fit_stop : r ≡ false → false ≡ all
    fit_stop q = sym (step ∙ rw q)

    pub fit_more : r ≡ true → fit f (key_in_def f e) rest ≡ all
    fit_more q = sym (step ∙ rw q)
