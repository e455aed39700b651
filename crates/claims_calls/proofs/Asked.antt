-- A typed lookup of a number of four bytes answers what the lock rule takes of that field.
use mathlib.Core.Path.{◌≡◌, refl, sym, ◌∙◌, ap, subst}
use mathlib.Core.Bool.{true}
use mathlib.Core.List.{List, [], map}
use Prim.Native.Nat.{ℕ}
use lib.Dec.{eqb}
use lib.ListN.{length}
use Rattle.format.specs.Keys.{key_of}
use Rattle.format.specs.Content.{Pair, Found, absent, found, find, field}
use Rattle.format.specs.Tables.{Held, held, View, hides, shows, view_of}
use Rattle.format.specs.Lookups.{exactly, length_fits}
use Rattle.format.specs.Fields.{number_field}
use Rattle.format.specs.Locks.{sized_to}
use Rattle.format.specs.declared.Psbt.{Psbt}
use Rattle.format.proofs.Tests.{pick_ap}
use Rattle.claims_reading.specs.Shown.{bare}
use Rattle.claims_reading.proofs.Found.{find_bare}
use Rattle.claims_calls.specs.Answers.{of_length_in, look_in_def, number_in}
use Rattle.claims_calls.specs.Asked.{asks_for, seen_in}
use Rattle.claims_calls.proofs.Shapes.{Sound, held_sound, number_by}

number_sized : (w : ℕ) (x : Found) → number_in (of_length_in (exactly w) x) ≡ asks_for (sized_to w x)
unfolding number_in of_length_in length_fits sized_to asks_for
number_sized w absent = refl
number_sized w (found v) = pick_ap number_in (eqb (length v) w) _ _ ∙ sym (pick_ap asks_for (eqb (length v) w) _ _)

look_seen : (t : ℕ) (v : View) → number_in (look_in_def true (exactly 4) (key_of t []) v) ≡ seen_in t v
unfolding number_in look_in_def seen_in field
look_seen t (hides e) = refl
look_seen t (shows ps) = number_sized 4 (find (key_of t []) ps)

pub number_seen : (f P M : List ℕ) (s : Psbt) (m t : ℕ) (h : Held) → held f P M s m ≡ h → number_field t 4 f h ≡ seen_in t (view_of f h)
number_seen f P M s m t h q = number_by t 4 f h (subst (Sound f) q (held_sound f P M s m)) ∙ look_seen t (view_of f h)

-- how a pair's lengths are spelled changes nothing
pub seen_bare : (t : ℕ) (ps : List Pair) → seen_in t (shows (map bare ps)) ≡ asks_for (sized_to 4 (field t ps))
unfolding seen_in field
seen_bare t ps = ap (λ (x : Found). asks_for (sized_to 4 x)) (find_bare (key_of t []) ps)
