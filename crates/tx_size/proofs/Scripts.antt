-- Laws of where an output's script stands, and of how long it is.
use mathlib.Core.Path.{◌≡◌, refl, sym, ◌∙◌, ap}
use mathlib.Core.Bool.{Bool, true, false, not}
use mathlib.Core.List.{List, [], ◌∷◌}
use Prim.Native.Nat.{ℕ, ◌-◌, ◌*◌, ◌^◌, ◌≤◌, ◌<◌}
use native.Mathlib.Omega.{arith}
use lib.Dec.{eqb}
use lib.ListN.{length, get_or, take, drop, length-take, length-drop, drop_of_length-le}
use lib.Seq.{take-nil}
use Rattle.format.specs.Content.{Found, absent, found}
use Rattle.format.specs.Scripts.{out_of, script_entry}
use Rattle.format.specs.Transaction.{set_so_far, set_script, script_of}
use Rattle.format.specs.declared.MapEntry.{MapEntry}
use Rattle.format.specs.declared.State.{State}
use Rattle.format.specs.declared.Part.{Part}
use Rattle.std.specs.Prelude.{Some, None}
use Rattle.format.proofs.Tests.{never_true}
use Rattle.fitness.specs.Parts.{bytes_at}
use Rattle.scripts.specs.Tables.{entry_at}
use Rattle.all_maps_fit.specs.Places.{found_in_def, field_at, FoundAt}
use Rattle.all_maps_fit.proofs.Fields.{usable_within, found_shows}
use Rattle.tx_size.specs.Lengths.{scripted, script_bytes}
use Rattle.tx_size.specs.Places.{out_in, is_set, script_in, script_length}
use Rattle.tx_size.specs.declared.ScriptAt.{ScriptAt}
use Rattle.tx_size.specs.declared.ScriptAt.TheVariants.{Missing, InFile, InTable}

-- an entry, as far as one was set
module _ (t : State) (T : List ℕ) (i : ℕ) where
  pub entry_set : t.set ≡ true → (e : List ℕ) → e ≡ entry_at T i → e ≡ entry_at (set_so_far t T) i
  unfolding set_so_far
  entry_set h e q = rw h q

  pub entry_unset : t.set ≡ false → [] ≡ entry_at (set_so_far t T) i
  unfolding set_so_far entry_at
  entry_unset h =
      let k : length {A = ℕ} [] ≤ i * script_entry = omega arith in
      sym (rw h (ap (take script_entry) (drop_of_length-le [] k) ∙ take-nil script_entry))

pub ruleset entries_set = (entry_set, entry_unset)

-- a script set in it
pub set_none : (e : List ℕ) → length e ≡ 0 → not (eqb (length e) 0) ≡ is_set e
unfolding is_set
set_none [] h = refl
set_none (b ∷ s) h = absurd (omega arith)

pub set_some : (e : List ℕ) → (length e ≡ 0 → ⊥) → eqb (get_or e 0 0) 1 ≡ is_set e
unfolding is_set
set_some [] h = absurd (h refl)
set_some (b ∷ s) h = refl

pub ruleset sets = (set_none, set_some)

set_in : (e : List ℕ) → is_set e ≡ true → set_script e ≡ found (drop 1 e)
unfolding is_set set_script
set_in [] h = never_true h
set_in (b ∷ s) h = rw h

set_out : (e : List ℕ) → is_set e ≡ false → set_script e ≡ absent
unfolding is_set set_script
set_out [] h = refl
set_out (b ∷ s) h = rw h

-- where an output's script stands
module _ (f P : List ℕ) (m : MapEntry) (e : List ℕ) (x : FoundAt) (is : x ≡ field_at f P 0x04 m) where
  script_field : (out_in f P m).script ≡ found_in_def f x
  unfolding out_in out_of
  script_field = sym (found_shows f P 0x04 m x is)

  pub script_file : (p : Part) → x ≡ Some p → script_in f e (InFile p.start p.len) ≡ (scripted (out_in f P m) e).script
  unfolding script_in scripted script_of found_in_def
  script_file p h = sym (ap (λ (y : Found). script_of y e) (script_field ∙ ap (found_in_def f) h))

  module _ (h : x ≡ None) (b : Bool) (q : b ≡ is_set e) where
    no_file : (scripted (out_in f P m) e).script ≡ set_script e
    unfolding scripted script_of found_in_def
    no_file = ap (λ (y : Found). script_of y e) (script_field ∙ ap (found_in_def f) h)

    pub script_table : b ≡ true → script_in f e InTable ≡ (scripted (out_in f P m) e).script
    unfolding script_in
    script_table t = sym (no_file ∙ set_in e (sym q ∙ t))

    pub script_nowhere : b ≡ false → script_in f e Missing ≡ (scripted (out_in f P m) e).script
    unfolding script_in
    script_nowhere t = sym (no_file ∙ set_out e (sym q ∙ t))

pub ruleset scripts_at = (usable_within, script_file, script_table, script_nowhere)

-- its bytes, and how many there are
module _ (f e : List ℕ) (x : ScriptAt) where
  script_by_lem : (y : ScriptAt) → x ≡ y → script_bytes (script_in f e x) ≡ script_bytes (script_in f e y)
  script_by_lem y h = ap (λ (z : ScriptAt). script_bytes (script_in f e z)) h

  pub in_none : x ≡ Missing → [] ≡ script_bytes (script_in f e x)
  unfolding script_bytes script_in
  in_none h = sym (script_by_lem Missing h)

  pub len_missing : x ≡ Missing → 0 ≡ script_length f e x
  unfolding script_length
  len_missing h = ap length (in_none h)

  module _ (s n : ℕ) (h : x ≡ InFile s n) (v : List ℕ) (q : v ≡ bytes_at f s n) where
    pub in_file_lem : v ≡ script_bytes (script_in f e x)
    unfolding script_bytes script_in bytes_at
    in_file_lem = q ∙ sym (script_by_lem (InFile s n) h)

    pub len_file : length v ≡ script_length f e x
    unfolding script_length
    len_file = ap length in_file_lem

  module _ (h : x ≡ InTable) where
    pub in_table : drop 1 e ≡ script_bytes (script_in f e x)
    unfolding script_bytes script_in
    in_table = sym (script_by_lem InTable h)

    pub len_table : length e - 1 ≡ script_length f e x
    unfolding script_length
    len_table = sym (length-drop 1 e) ∙ ap length in_table

pub ruleset script_lens = (len_missing, len_file, len_table)

-- it is short enough to be counted
few : (f e : List ℕ) (x : ScriptAt) → length f * 1 < 2 ^ 63 → length e * 1 < 2 ^ 63 → script_length f e x < 2 ^ 63
unfolding script_length script_bytes script_in
few f e Missing h k = omega arith
few f e (InFile s n) h k = omega (arith, length-take n (drop s f), length-drop s f)
few f e InTable h k = omega (arith, length-drop 1 e)

pub script_few : (f e : List ℕ) (x : ScriptAt) (n : ℕ) → n ≡ script_length f e x → length f * 1 < 2 ^ 63 → length e * 1 < 2 ^ 63 → n < 2 ^ 63
script_few f e x n q h k = rw q (few f e x h k)
