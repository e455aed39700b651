-- Laws of judging the script table, one for each way through the functions.
use mathlib.Core.Path.{◌≡◌, refl, sym, ◌∙◌, ap, ap₂}
use mathlib.Core.Bool.{Bool, true, false, ◌&&◌}
use mathlib.Core.List.{List}
use Prim.Native.Nat.{ℕ, ◌+◌, ◌-◌, ◌*◌, ◌≤◌, ◌<◌}
use native.Mathlib.Omega.{arith}
use lib.ListN.{drop}
use lib.Seq.{drop-drop}
use Rattle.format.specs.Content.{present, field}
use Rattle.format.specs.Scripts.{Out, out_of, script_entry}
use Rattle.format.specs.Transaction.{entry_fits, scripts_fit, table_fits}
use Rattle.format.specs.declared.MapEntry.{MapEntry}
use Rattle.format.specs.declared.Psbt.{Psbt}
use Rattle.format.specs.declared.State.{State}
use Rattle.entries.specs.Words.{pair_count, map_at}
use Rattle.scripts.specs.Tables.{entry_at, fits_by}
use Rattle.scripts.proofs.Tables.{fits_is}
use Rattle.all_maps_fit.specs.Alls.{AllFit, pairs_of, out_at, from, outs_of}
use Rattle.all_maps_fit.specs.Places.{found_in_def, field_at, FoundAt}
use Rattle.std.specs.Prelude.{Some, None, is_some}
use Rattle.all_maps_fit.proofs.Runs.{rest_none, rest_one, rest_all}
use Rattle.all_maps_fit.proofs.Gathers.{output_usable}
use Rattle.all_maps_fit.proofs.Fields.{usable_within, found_shows}
use Rattle.tx_size.specs.Places.{pairs_in}

-- the entry behind entry number i
pub next_entry : (T : List ℕ) (i : ℕ) → drop script_entry (drop (i * script_entry) T) ≡ drop ((i + 1) * script_entry) T
next_entry T i =
    let q : i * script_entry + script_entry ≡ (i + 1) * script_entry = omega arith in
    drop-drop script_entry (i * script_entry) T ∙ ap (λ (k : ℕ). drop k T) q

-- a script that was found is present
found_in : (f : List ℕ) (x : FoundAt) → present (found_in_def f x) ≡ is_some x
unfolding present found_in_def
found_in f None = refl
found_in f (Some p) = refl

-- judging entries from number i on gives what judging all gives
pub record Judging (f P M : List ℕ) (s : Psbt) (T : List ℕ) (i : ℕ) : Type 0 where
  pub is : scripts_fit (from (out_at f P M s) i (s.outputs - i)) (drop (i * script_entry) T) ≡ scripts_fit (outs_of f P M s) T

pub judge_first : (f P M : List ℕ) (s : Psbt) (T : List ℕ) → Judging f P M s T 0
unfolding outs_of
judge_first f P M s T = record { is = ap (λ (l : List Out). scripts_fit l T) (rest_all (out_at f P M s) s.outputs) }

module _ (f P M : List ℕ) (s : Psbt) (T : List ℕ) (i : ℕ) (k : Judging f P M s T i) where
  pub judge_done : s.outputs ≤ i → true ≡ scripts_fit (outs_of f P M s) T
  unfolding scripts_fit
  judge_done h = sym (ap (λ (l : List Out). scripts_fit l (drop (i * script_entry) T)) (rest_none (out_at f P M s) i s.outputs h)) ∙ k.is

  module _ (h : i < s.outputs) (m : MapEntry) (em : m ≡ map_at M (1 + s.inputs + i)) (x : FoundAt) (ex : x ≡ field_at f P 0x04 m) (b : Bool)
      (eb : b ≡ is_some x)
      (e : List ℕ) (ee : e ≡ entry_at T i) (r : Bool) (er : r ≡ fits_by b e) where
    one : entry_fits (out_at f P M s i).script (entry_at T i) ≡ r
    unfolding out_at out_of pairs_of
    one =
        ap₂ entry_fits (ap (λ (y : MapEntry). field 0x04 (pairs_in f P y)) (sym em) ∙ sym (found_shows f P 0x04 m x ex)) (sym ee)
        ∙ fits_is (found_in_def f x) e ∙ ap (λ (c : Bool). fits_by c e) (found_in f x ∙ sym eb) ∙ sym er

    step : scripts_fit (outs_of f P M s) T ≡ (r && scripts_fit (from (out_at f P M s) (i + 1) (s.outputs - (i + 1))) (drop ((i + 1) * script_entry) T))
    unfolding scripts_fit entry_at
    step =
        sym k.is ∙ ap (λ (l : List Out). scripts_fit l (drop (i * script_entry) T)) (rest_one (out_at f P M s) i s.outputs h)
        ∙ ap₂ (λ (c : Bool) (l : List ℕ). c && scripts_fit (from (out_at f P M s) (i + 1) (s.outputs - (i + 1))) l) one (next_entry T i)

    pub judge_stop : r ≡ false → false ≡ scripts_fit (outs_of f P M s) T
    judge_stop w = sym (step ∙ rw w)

    pub judge_more : r ≡ true → Judging f P M s T (i + 1)
    judge_more w = record { is = sym (step ∙ rw w) }

pub output_within : (f P M : List ℕ) (s : Psbt) (i : ℕ) (m : MapEntry) → AllFit f P M s → i < s.outputs → m ≡ map_at M (1 + s.inputs + i)
    → m.first + m.count ≤ pair_count P
output_within f P M s i m k h e = usable_within f P m (output_usable f P M s k i h m e)

pub ruleset judges = (judge_first, judge_done, judge_stop, judge_more, output_within)

-- once scripts are set
module _ (t : State) (outs : List Out) (T : List ℕ) where
  pub table_set : t.set ≡ true → (r : Bool) → r ≡ scripts_fit outs T → r ≡ table_fits t outs T
  unfolding table_fits
  table_set h r q = rw h q

  pub table_unset : t.set ≡ false → true ≡ table_fits t outs T
  unfolding table_fits
  table_unset h = rw h

pub ruleset tables = (table_set, table_unset)
