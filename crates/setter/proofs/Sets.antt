-- The setter: what is right is filled, what is not is refused, and what is told of it is one.
use mathlib.Core.Path.{◌≡◌, refl, sym, ◌∙◌, ap}
use mathlib.Core.Bool.{Bool, true, false, ◌&&◌}
use mathlib.Core.List.{List, [], ◌∷◌}
use Prim.Native.Nat.{ℕ, suc, ◌+◌}
use native.Mathlib.Omega.{arith}
use lib.ListN.{length}
use lib.Dec.{ltb}
use borrow.Author.Tests.{ne_eqb}
use Rattle.format.specs.Tests.{every}
use Rattle.format.specs.Tables.{view, gather, maps_reported}
use Rattle.format.specs.Scripts.{Out, Reported, allowed, served, Given, whole, cut_short, entries_for}
use Rattle.format.specs.Scripts.{right_for, settable, set_out_def, after_set, set_table, set_given, set_by, set_scripts}
use Rattle.format.specs.Told.{told_left, told_set, told_set_out}
use Rattle.format.specs.declared.PsbtError.{PsbtError}
use Rattle.format.specs.declared.PsbtError.TheVariants.{InvalidOutputScripts}
use Rattle.format.specs.declared.Psbt.{Psbt}
use Rattle.format.specs.declared.State.{State}
use Rattle.format.specs.declared.Assignment.{Assignment}
use Rattle.format.specs.Answers.{passed, Ruled, ScriptsSet}
use Rattle.std.specs.Prelude.{Err}
use Rattle.format.proofs.Tests.{and_left, and_right, never_true}
use Rattle.all_maps_fit.specs.Alls.{ruled_by, AllFit, out_at, outs_of}
use Rattle.all_maps_fit.proofs.Runs.{from_length}
use Rattle.all_maps_fit.proofs.Gathers.{all_are, all_not, all_reported}
use Rattle.setter.specs.Records.{lies, sound}
use Rattle.setter.specs.Fills.{entries_from, state_after, filled_for, Sound}
use Rattle.setter.specs.Rights.{given_by, right_given}

-- the table by the number of outputs is the definition's, which has the outputs
entries_are : (buffer : List ℕ) (xs : List Assignment) (i : ℕ) (outs : List Out) → entries_for buffer xs i outs ≡ entries_from buffer xs i (length outs)
unfolding entries_for entries_from
entries_are buffer xs i [] = refl
entries_are buffer xs i (o ∷ os) = rw (entries_are buffer xs (i + 1) os)

after_is : (t : State) (outs : List Out) → after_set t outs ≡ state_after t (length outs)
unfolding after_set state_after
after_is t [] = refl
after_is t (o ∷ os) = rw (ne_eqb (suc (length os)) 0 (λ q. omega (arith, q)))

table_is : (outs : List Out) (buffer : List ℕ) (t : State) (T : List ℕ) (xs : List Assignment)
    → set_table outs buffer t T xs ≡ filled_for (length outs) buffer t T xs
unfolding set_table filled_for
table_is outs buffer t T xs = rw (entries_are buffer xs 0 outs, after_is t outs)

-- what each may, is sound
sound_all : (n : ℕ) (buffer : List ℕ) (xs : List Assignment) → every (allowed n buffer) xs ≡ true → every (sound buffer) xs ≡ true
unfolding every allowed sound lies
sound_all n buffer [] h = refl
sound_all n buffer (a ∷ xs) h =
    rw (
      and_right (ltb a.output n) (sound buffer a) (and_left (allowed n buffer a) (every (allowed n buffer) xs) h),
      sound_all n buffer xs (and_right (allowed n buffer a) (every (allowed n buffer) xs) h),
    )

-- the definition, by whether what is given is right
right_wrong : (outs : List Out) (buffer : List ℕ) (t : State) (T : List ℕ) (g : Given) → right_given outs buffer t g ≡ false
    → set_out_def (Err InvalidOutputScripts) T ≡ set_given outs buffer t T g
unfolding right_given set_given
right_wrong outs buffer t T cut_short h = refl
right_wrong outs buffer t T (whole xs) h = rw h

module _ (f P M : List ℕ) (s : Psbt) (buffer : List ℕ) (t : State) (w : Bool) (xs : List Assignment) (b : Bool)
    (is : b ≡ right_given (outs_of f P M s) buffer t (given_by w xs)) where
  pub set_wrong : b ≡ false → (T : List ℕ) → set_out_def (Err InvalidOutputScripts) T ≡ set_given (outs_of f P M s) buffer t T (given_by w xs)
  set_wrong q T = right_wrong (outs_of f P M s) buffer t T (given_by w xs) (sym is ∙ q)

  module _ (q : b ≡ true) where
    is_whole : given_by w xs ≡ whole xs
    unfolding right_given
    is_whole = by w refl
      where
        by : (c : Bool) → w ≡ c → given_by w xs ≡ whole xs
        by true e = rw e
        by false e = never_true (sym (rw e at is) ∙ q)

    right : (settable t && right_for (outs_of f P M s) buffer xs) ≡ true
    unfolding right_given
    right = rw is_whole at (sym is ∙ q)

    pub set_sound : Sound buffer xs
    unfolding right_for
    set_sound =
        let x = and_right (settable t) (right_for (outs_of f P M s) buffer xs) right in
        record {
          all = sound_all (length (outs_of f P M s)) buffer xs
              (and_left (every (allowed (length (outs_of f P M s)) buffer) xs) (served 0 (outs_of f P M s) xs) x);
        }

    pub set_right : (T T₁ : List ℕ) (r : ScriptsSet) → set_out_def r T₁ ≡ filled_for s.outputs buffer t T xs
        → set_out_def r T₁ ≡ set_given (outs_of f P M s) buffer t T (given_by w xs)
    unfolding set_given outs_of
    set_right T T₁ r e =
        e
        ∙ sym (ap (set_given (outs_of f P M s) buffer t T) is_whole
        ∙ rw right (table_is (outs_of f P M s) buffer t T xs
        ∙ ap (λ (n : ℕ). filled_for n buffer t T xs) (from_length (out_at f P M s) 0 s.outputs)))

pub ruleset sets_fit = (set_wrong, set_sound, set_right)

-- and by whether all maps are fit, as it is told
module _ (f P M : List ℕ) (s : Psbt) (g : Given) (buffer : List ℕ) (t : State) (T : List ℕ) (r : Ruled)
    (is : r ≡ ruled_by (gather (view f P M s) 0 (maps_reported s))) where
  pub told_unfit : (e : PsbtError) → r ≡ Err e → told_left (told_set (Err e)) T ≡ told_set_out (set_scripts (view f P M s) s g buffer t T)
  unfolding set_scripts set_by told_set_out
  told_unfit e q = ap (λ (x : Reported). told_set_out (set_by buffer t T g x)) (all_not f P M s r is e q)

  module _ (q : r ≡ passed) where
    pub told_fit : AllFit f P M s
    told_fit = all_are f P M s r is q

    pub told_is : (T₁ : List ℕ) (x : ScriptsSet) → set_out_def x T₁ ≡ set_given (outs_of f P M s) buffer t T g
        → told_left (told_set x) T₁ ≡ told_set_out (set_scripts (view f P M s) s g buffer t T)
    unfolding set_scripts set_by told_set_out
    told_is T₁ x e = ap told_set_out (e ∙ ap (set_by buffer t T g) (all_reported f P M s told_fit))

pub ruleset sets_told = (told_unfit, told_fit, told_is)
