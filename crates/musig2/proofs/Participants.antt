-- Laws of lists of participants.
use mathlib.Core.Path.{◌≡◌, refl, sym, ◌∙◌, ap}
use mathlib.Core.List.{List, ◌++◌}
use Prim.Native.Nat.{ℕ, ◌+◌, ◌*◌, ◌/◌, ◌≤◌, ◌<◌}
use borrow.Author.Tests.{lt-ltb, le-ltb}
use Rattle.format.specs.Keys.{key_of}
use Rattle.format.specs.Tables.{held_input, held_output}
use Rattle.format.specs.Lookups.{key_list}
use Rattle.format.specs.Fields.{participant_count, participant, input_participants, output_participants}
use Rattle.format.specs.Told.{told_looked, told_numbered}
use Rattle.format.proofs.Told.{looked_one}
use Rattle.format.specs.declared.PsbtError.{PsbtError}
use Rattle.format.specs.declared.PsbtError.TheVariants.{OutOfRange}
use Rattle.format.specs.declared.Part.{Part}
use Rattle.format.specs.Answers.{part_at, Looked, Numbered}
use Rattle.std.specs.Prelude.{Ok, Err, Option, Some, None}
use Rattle.std.specs.Option.{option_map}
use Rattle.format.specs.declared.Psbt.{Psbt}
use Rattle.fitness.specs.Fits.{fit_input, fit_output}
use Rattle.lookup.specs.Finds.{Lies}
use Rattle.fitness.proofs.Maps.{input_held, output_held, input_sound, output_sound}
use Rattle.lookup.proofs.Finds.{asked_in}

-- how many there are
pub counted : (o : Option Part) (n : Option ℕ) → n ≡ option_map (λ p. p.len / 33) o → ◌≡◌ {A = Numbered} (Ok n) (participant_count (Ok o))
unfolding participant_count
counted None n e = ap (λ (x : Option ℕ). Ok x) e
counted (Some p) n e = ap (λ (x : Option ℕ). Ok x) e

-- one of them, by what was found
module _ (o : Option Part) (i : ℕ) where
  pub one_absent : o ≡ None → ◌≡◌ {A = Looked} (Ok None) (participant i (Ok o))
  unfolding participant
  one_absent q = rw q

  module _ (p : Part) (q : o ≡ Some p) where
    pub one_past : p.len / 33 ≤ i → Err OutOfRange ≡ participant i (Ok o)
    unfolding participant
    one_past h = rw (q, le-ltb i (p.len / 33) h)

    module _ (h : i < p.len / 33) where
      pub one_there : Ok (Some (part_at (p.start + 33 * i) 33)) ≡ participant i (Ok o)
      unfolding participant
      one_there = rw (q, lt-ltb i (p.len / 33) h)

pub ruleset participants = (counted, one_absent, one_past, one_there)

-- of the list that was looked up
module _ (o l : Looked) (q : told_looked o ≡ told_looked l) where
  module _ (e : PsbtError) (x : o ≡ Err e) where
    pub count_refused : told_numbered (Err e) ≡ told_numbered (participant_count l)
    unfolding participant_count
    count_refused = ap (λ (y : Looked). told_numbered (participant_count y)) (sym x ∙ looked_one o l q)

    pub one_refused : (i : ℕ) → told_looked (Err e) ≡ told_looked (participant i l)
    unfolding participant
    one_refused i = ap (λ (y : Looked). told_looked (participant i y)) (sym x ∙ looked_one o l q)

  module _ (s : Option Part) (x : o ≡ Ok s) where
    pub count_of : (n : Option ℕ) → Ok n ≡ participant_count (Ok s) → told_numbered (Ok n) ≡ told_numbered (participant_count l)
    count_of n e = ap told_numbered (e ∙ ap participant_count (sym x ∙ looked_one o l q))

    pub one_of : (i : ℕ) (r : Looked) → r ≡ participant i (Ok s) → told_looked r ≡ told_looked (participant i l)
    one_of i r e = ap told_looked (e ∙ ap (participant i) (sym x ∙ looked_one o l q))

-- a list of participants lies in the file
module _ (f P M a : List ℕ) (s : Psbt) (i : ℕ) (o : Looked) (found : Option Part) (x : o ≡ Ok found) where
  pub input_list_in : (l : List ℕ) → told_looked o ≡ told_looked (input_participants f a l (held_input f P M s i)) → Lies f (Ok found)
  unfolding input_participants
  input_list_in l e =
      let fit = fit_input f P M s i in
      rw (← x, looked_one o (input_participants f a l (held_input f P M s i)) e, ← input_held f P M s i fit refl)
      (asked_in _ key_list f (key_of 0x1a (a ++ l)) P fit (input_sound f P M s i fit refl))

  pub output_list_in : told_looked o ≡ told_looked (output_participants f a (held_output f P M s i)) → Lies f (Ok found)
  unfolding output_participants
  output_list_in e =
      let fit = fit_output f P M s i in
      rw (← x, looked_one o (output_participants f a (held_output f P M s i)) e, ← output_held f P M s i fit refl)
      (asked_in _ key_list f (key_of 0x08 a) P fit (output_sound f P M s i fit refl))

pub ruleset lists = (count_refused, one_refused, count_of, one_of, input_list_in, output_list_in)
