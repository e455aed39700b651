-- Laws of an output's script: one for each way through the functions, one outcome, and that it is the script a transaction takes.
use mathlib.Core.Path.{◌≡◌, refl, sym, ◌∙◌, ap, ap₂, subst}
use mathlib.Core.Bool.{Bool, true, false, and-true}
use mathlib.Core.List.{List, [], ◌∷◌, map}
use Prim.Native.Nat.{ℕ, ◌+◌, ◌*◌, ◌^◌, ◌<◌}
use native.Mathlib.Omega.{arith}
use lib.Dec.{eqb}
use lib.ListN.{length, take, drop, length-take, length-drop}
use lib.Seq.{take-nil, drop-nil, drop-drop}
use mir.Syntax.{w64}
use mir.Val.{Fits}
use Rattle.format.specs.Tests.{pick}
use Rattle.format.specs.Keys.{key_of, same}
use Rattle.format.specs.Content.{Found, absent, found, present, field}
use Rattle.format.specs.Entries.{key_in_def, shown}
use Rattle.format.specs.Tables.{holds, held_output}
use Rattle.format.specs.Lookups.{place}
use Rattle.format.specs.Scripts.{script_entry, out_of}
use Rattle.format.specs.Transaction.{entry_fits, scripts_fit, table_fits, set_so_far, set_script, script_of, script_place, output_script_def, script_part}
use Rattle.format.specs.Told.{told_script}
use Rattle.format.specs.declared.PsbtError.{PsbtError}
use Rattle.format.specs.declared.PsbtError.TheVariants.{BadIndex}
use Rattle.format.specs.declared.PairEntry.{PairEntry}
use Rattle.format.specs.declared.MapEntry.{MapEntry}
use Rattle.format.specs.declared.Psbt.{Psbt}
use Rattle.format.specs.declared.State.{State}
use Rattle.format.specs.declared.Part.{Part}
use Rattle.format.specs.Answers.{Looked, OutputScript}
use Rattle.std.specs.Prelude.{Ok, Err, Some, None}
use Rattle.format.specs.declared.ScriptPlace.TheVariants as O
use Rattle.format.proofs.Tests.{pick_by, never_true, and_left}
use Rattle.format.proofs.Told.{script_one}
use Rattle.fitness.specs.Fits.{entries_of, held_of, fit_output, Fit}
use Rattle.fitness.specs.Parts.{bytes_at}
use Rattle.fitness.proofs.Maps.{output_held}
use Rattle.scripts.specs.Tables.{entry_at, filled, fits_by}
use Rattle.scripts.proofs.Tables.{fits_is}
use Rattle.all_maps_fit.specs.Places.{found_at, field_at, found_in_def, FoundAt}
use Rattle.all_maps_fit.proofs.Fields.{found_shows}
use Rattle.output_script.specs.Scripts.{in_file, in_table, standing}

-- an entry with a script stands in its table
filled_in : (T : List ℕ) (i : ℕ) → filled (entry_at T i) ≡ true → i * 35 < length T
unfolding entry_at filled
filled_in T i h = by (take 35 (drop (i * 35) T)) refl h
  where
    by : (e : List ℕ) → take 35 (drop (i * 35) T) ≡ e → filled e ≡ true → i * 35 < length T
    by [] q h = never_true h
    by (b ∷ e) q h = let l : length (take 35 (drop (i * 35) T)) ≡ length (b ∷ e) = ap length q in omega (arith, rw (length-take, length-drop) at l)

-- the ways through `in_file` and `in_table`
module _ (t : State) (T : List ℕ) (i : ℕ) where
  module _ (s n : ℕ) where
    pub file_unset : t.set ≡ false → Ok (Some (O.InFile s n)) ≡ in_file t T i s n
    unfolding in_file
    file_unset h = rw h

    module _ (h : t.set ≡ true) (e : List ℕ) (ee : e ≡ entry_at T i) (b : Bool) (eb : b ≡ fits_by true e) where
      pub file_fit : b ≡ true → Ok (Some (O.InFile s n)) ≡ in_file t T i s n
      unfolding in_file
      file_fit w = rw (h, ← ee, ← eb, w)

      pub file_unfit : b ≡ false → Err BadIndex ≡ in_file t T i s n
      unfolding in_file
      file_unfit w = rw (h, ← ee, ← eb, w)

  pub table_unset : t.set ≡ false → Ok None ≡ in_table t T i
  unfolding in_table
  table_unset h = rw h

  module _ (e : List ℕ) (ee : e ≡ entry_at T i) (b : Bool) (eb : b ≡ fits_by false e) where
    pub table_fit : t.set ≡ true → b ≡ true → Ok (Some (O.InTable (i * 35 + 1) 34)) ≡ in_table t T i
    unfolding in_table
    table_fit h w = rw (h, ← ee, ← eb, w)

    pub table_unfit : t.set ≡ true → b ≡ false → Err BadIndex ≡ in_table t T i
    unfolding in_table
    table_unfit h w = rw (h, ← ee, ← eb, w)

    table_in : b ≡ true → i * 35 < length T
    unfolding fits_by
    table_in w = filled_in T i (ap filled (sym ee) ∙ sym eb ∙ w)

    pub table_times : b ≡ true → length T < 2 ^ 64 → Fits w64 (i * 35)
    table_times w l = record { fits = omega (arith, table_in w) }

    pub table_start : b ≡ true → length T < 2 ^ 64 → Fits w64 (i * 35 + 1)
    table_start w l = record { fits = omega (arith, table_in w) }

pub ruleset ways = (file_unset, file_fit, file_unfit, table_unset, table_fit, table_unfit, table_times, table_start)

-- a key is found, or it is absent: neither is a refusal
place_is : (f key : List ℕ) (es : List PairEntry) → place f key es ≡ Ok (found_at (place f key es))
unfolding place found_at
place_is f key [] = refl
place_is f key (x ∷ es) = pick_by (λ (o : Looked). o ≡ Ok (found_at o)) (same key (key_in_def f x)) _ _ (λ w. refl) (λ w. place_is f key es)

-- tests joined, and one after the other
joined_same : {A : Type 0} (a b : Bool) (x y : A) → pick a (pick b x y) x ≡ pick (pick a b true) x y
joined_same true b x y = refl
joined_same false b x y = refl

joined_other : {A : Type 0} (a b : Bool) (x y z : A) → pick a (pick b x y) z ≡ pick (pick a b true) (pick a x z) y
joined_other true b x y z = refl
joined_other false b x y z = refl

-- an output by where its script 04 was found
module _ (f P : List ℕ) (m : MapEntry) (x : FoundAt) (ex : x ≡ field_at f P 0x04 m) (t : State) (T : List ℕ) (i : ℕ) where
  table_is : table_fits t (out_of (map (shown f) (entries_of P m)) ∷ []) (drop (i * script_entry) T)
      ≡ pick t.set (fits_by (present (found_in_def f x)) (entry_at T i)) true
  unfolding table_fits scripts_fit out_of entry_at
  table_is =
      ap (λ (b : Bool). pick t.set b true)
      (and-true _ ∙ ap (λ (y : Found). entry_fits y (take script_entry (drop (i * script_entry) T))) (sym (found_shows f P 0x04 m x ex))
      ∙ fits_is (found_in_def f x) (take script_entry (drop (i * script_entry) T)))

  placed : (y : FoundAt) → x ≡ y → place f (key_of 0x04 []) (entries_of P m) ≡ Ok y
  unfolding field_at
  placed y e = place_is f (key_of 0x04 []) (entries_of P m) ∙ ap (λ (z : FoundAt). Ok z) (sym ex ∙ e)

  pub script_missing : x ≡ None → (r : OutputScript) → r ≡ in_table t T i → r ≡ output_script_def f t T i (holds (entries_of P m))
  unfolding in_table output_script_def script_place found_in_def present
  script_missing e r q =
      let w = table_is ∙ ap (λ (y : FoundAt). pick t.set (fits_by (present (found_in_def f y)) (entry_at T i)) true) e in
      q ∙ joined_other t.set (fits_by false (entry_at T i)) _ _ _
      ∙ sym (ap₂ (λ (b : Bool) (o : Looked). pick b (script_place t i o) (Err BadIndex)) w (placed None e))

  pub script_there : (p : Part) → x ≡ Some p → (r : OutputScript) → r ≡ in_file t T i p.start p.len → r ≡ output_script_def f t T i (holds (entries_of P m))
  unfolding in_file output_script_def script_place found_in_def present
  script_there p e r q =
      let w = table_is ∙ ap (λ (y : FoundAt). pick t.set (fits_by (present (found_in_def f y)) (entry_at T i)) true) e in
      q ∙ joined_same t.set (fits_by true (entry_at T i)) _ _
      ∙ sym (ap₂ (λ (b : Bool) (o : Looked). pick b (script_place t i o) (Err BadIndex)) w (placed (Some p) e))

pub ruleset by_map = (script_missing, script_there)

-- the public call, by what its output's map is
module _ (f P M : List ℕ) (s : Psbt) (t : State) (T : List ℕ) (i : ℕ) (y : Fit) (ey : y ≡ fit_output f P M s i) where
  told_by : (r : OutputScript) → r ≡ output_script_def f t T i (held_of P y) → told_script r ≡ told_script (output_script_def f t T i (held_output f P M s i))
  told_by r q = ap told_script (q ∙ ap (output_script_def f t T i) (output_held f P M s i y ey))

  pub told_refused : (e : PsbtError) → y ≡ Err e → told_script (Err e) ≡ told_script (output_script_def f t T i (held_output f P M s i))
  unfolding held_of output_script_def
  told_refused e q = told_by (Err e) (sym (ap (λ (z : Fit). output_script_def f t T i (held_of P z)) q))

  pub told_held : (m : MapEntry) → y ≡ Ok m → (r : OutputScript) → r ≡ output_script_def f t T i (holds (entries_of P m))
      → told_script r ≡ told_script (output_script_def f t T i (held_output f P M s i))
  unfolding held_of
  told_held m q r e = told_by r (e ∙ sym (ap (λ (z : Fit). output_script_def f t T i (held_of P z)) q))

pub ruleset public = (told_refused, told_held)

-- the part that an answer names
module _ (f T : List ℕ) (o : OutputScript) where
  pub part_refused : (e : PsbtError) → o ≡ Err e → [] ≡ script_part f T o
  unfolding script_part
  part_refused e q = rw q

  pub part_absent : o ≡ Ok None → [] ≡ script_part f T o
  unfolding script_part
  part_absent q = rw q

  module _ (s n : ℕ) (v : List ℕ) where
    pub part_in_file : o ≡ Ok (Some (O.InFile s n)) → v ≡ bytes_at f s n → v ≡ script_part f T o
    unfolding script_part bytes_at
    part_in_file q e = rw q e

    pub part_in_table : o ≡ Ok (Some (O.InTable s n)) → v ≡ bytes_at T s n → v ≡ script_part f T o
    unfolding script_part bytes_at
    part_in_table q e = rw q e

pub ruleset script_parts = (part_refused, part_absent, part_in_file, part_in_table)

pub part_told : (f T v : List ℕ) (o d : OutputScript) → v ≡ script_part f T o → told_script o ≡ told_script d → v ≡ script_part f T d
part_told f T v o d e q = e ∙ ap (script_part f T) (script_one o d q)

-- the script that an entry has set stands behind its first byte
set_is : (T : List ℕ) (i : ℕ) → filled (entry_at T i) ≡ true → found (take 34 (drop (i * 35 + 1) T)) ≡ set_script (entry_at T i)
unfolding entry_at filled set_script
set_is T i h = rw (← drop-drop 1 (i * 35) T) (by (drop (i * 35) T) h)
  where
    by : (X : List ℕ) → filled (take 35 X) ≡ true → found (take 34 (drop 1 X)) ≡ set_script (take 35 X)
    by [] h = never_true h
    by (b ∷ X) h = sym (rw (and_left (eqb b 1) _ h))

none_set : (i : ℕ) → absent ≡ set_script (entry_at [] i)
unfolding entry_at set_script
none_set i = sym (ap set_script (ap (take 35) (drop-nil (i * 35)) ∙ take-nil 35))

module _ (f : List ℕ) (t : State) (T : List ℕ) (i : ℕ) (y : Found) where
  -- not refused, it names the script that the output y with its entry has by now
  abbrev Names : OutputScript → Type 0
  Names r = ((e : PsbtError) → r ≡ Err e → ⊥) → standing f T r ≡ script_of y (entry_at (set_so_far t T) i)

  file_names : (s n : ℕ) → y ≡ found (take n (drop s f)) → Names (in_file t T i s n)
  unfolding in_file standing script_of
  file_names s n e =
      pick_by Names t.set _ _
      (λ w. pick_by Names (fits_by true (entry_at T i)) _ _ (λ q h. rw e) (λ q h. absurd (h BadIndex refl)))
      (λ w h. rw e)

  table_names : y ≡ absent → Names (in_table t T i)
  unfolding in_table standing script_of set_so_far fits_by
  table_names e =
      pick_by Names t.set _ _
      (λ w. pick_by Names (fits_by false (entry_at T i)) _ _ (λ q h. rw (e, w) (set_is T i q)) (λ q h. absurd (h BadIndex refl)))
      (λ w h. rw (e, w) (none_set i))

-- any answer that meets the promise of an output whose map is fit, and is no refusal, names the script that a transaction takes for it
module _ (f P : List ℕ) (m : MapEntry) (t : State) (T : List ℕ) (i : ℕ) where
  names : (x : FoundAt) → x ≡ field_at f P 0x04 m
      → Names f t T i (field 0x04 (map (shown f) (entries_of P m))) (output_script_def f t T i (holds (entries_of P m)))
  unfolding found_in_def
  names None ex =
      subst (Names f t T i (field 0x04 (map (shown f) (entries_of P m)))) (script_missing f P m None ex t T i refl (in_table t T i) refl)
      (table_names f t T i _ (sym (found_shows f P 0x04 m None ex)))
  names (Some p) ex =
      subst (Names f t T i (field 0x04 (map (shown f) (entries_of P m)))) (script_there f P m (Some p) ex t T i p refl (in_file t T i p.start p.len) refl)
      (file_names f t T i _ p.start p.len (sym (found_shows f P 0x04 m (Some p) ex)))

  pub script_is : (r : OutputScript) → told_script r ≡ told_script (output_script_def f t T i (holds (entries_of P m)))
      → ((e : PsbtError) → r ≡ Err e → ⊥)
      → standing f T r ≡ script_of (out_of (map (shown f) (entries_of P m))).script (entry_at (set_so_far t T) i)
  unfolding out_of
  script_is r p = subst (Names f t T i (field 0x04 (map (shown f) (entries_of P m)))) (sym (script_one r _ p)) (names (field_at f P 0x04 m) refl)
