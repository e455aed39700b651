-- Laws of measuring outputs and the whole, one for each way through the functions.
use mathlib.Core.Path.{◌≡◌, refl, sym, ◌∙◌, ap, ap₂}
use mathlib.Core.Bool.{Bool, true, false}
use mathlib.Core.List.{List}
use Prim.Native.Nat.{ℕ, ◌+◌, ◌-◌, ◌≤◌, ◌<◌}
use Rattle.format.specs.Content.{Found, field}
use Rattle.format.specs.Locks.{Sized, missing, misfit, is, sized_to}
use Rattle.format.specs.Scripts.{Out, out_of}
use Rattle.format.specs.Transaction.{set_so_far}
use Rattle.format.specs.declared.PsbtError.{PsbtError}
use Rattle.format.specs.declared.PsbtError.TheVariants.{BadValue, MissingOutputScript}
use Rattle.format.specs.declared.MapEntry.{MapEntry}
use Rattle.format.specs.declared.Psbt.{Psbt}
use Rattle.format.specs.declared.State.{State}
use Rattle.format.proofs.Tests.{never_true}
use Rattle.entries.specs.Words.{map_at}
use Rattle.scripts.specs.Tables.{entry_at}
use Rattle.all_maps_fit.specs.Alls.{pairs_of, out_at, from}
use Rattle.all_maps_fit.specs.Places.{sized_in}
use Rattle.all_maps_fit.specs.declared.SizedAt.{SizedAt}
use Rattle.all_maps_fit.specs.declared.SizedAt.TheVariants as S
use Rattle.all_maps_fit.proofs.Runs.{rest_none, rest_one, rest_all}
use Rattle.tx_size.specs.Lengths.{is_there, scripted, script_bytes, out_length, capped, measure_by, out_measure, more_by, outs_measure, fixed_length, Measure}
use Rattle.tx_size.specs.Lengths.{tx_measure}
use Rattle.tx_size.specs.Places.{pairs_in, out_in, out_now, outs_now, there_at, script_in, script_length, has_script}
use Rattle.std.specs.Prelude.{Ok, Err}
use Rattle.tx_size.specs.declared.ScriptAt.{ScriptAt}
use Rattle.tx_size.specs.declared.ScriptAt.TheVariants.{Missing, InFile, InTable}
use Rattle.tx_size.proofs.Scripts.{script_few}

-- a field that is there, by the case that it is
pub there_in : (w : ℕ) (f : List ℕ) (x : SizedAt) → is_there (sized_in w f x) ≡ there_at x
unfolding is_there sized_in there_at
there_in w f S.Missing = refl
there_in w f S.Misfit = refl
there_in w f (S.At s) = refl

-- an output's measure
module _ (f P : List ℕ) (m : MapEntry) (e : List ℕ) (x : SizedAt) (ex : sized_in 8 f x ≡ sized_to 8 (field 0x03 (pairs_in f P m)))
    (a : Bool) (ea : a ≡ there_at x) where
  amount_is : (scripted (out_in f P m) e).amount ≡ sized_in 8 f x
  unfolding scripted out_in out_of
  amount_is = sym ex

  measure_none : (y : Sized) (z : Found) → is_there y ≡ false → Err BadValue ≡ measure_by y z
  unfolding measure_by is_there
  measure_none missing z h = refl
  measure_none misfit z h = refl
  measure_none (is v) z h = never_true (sym h)

  pub len_amount : a ≡ false → Err BadValue ≡ out_measure (scripted (out_in f P m) e)
  unfolding out_measure
  len_amount h = measure_none (scripted (out_in f P m) e).amount (scripted (out_in f P m) e).script (ap is_there amount_is ∙ there_in 8 f x ∙ sym ea ∙ h)

  module _ (h : a ≡ true) (y : ScriptAt) (ey : script_in f e y ≡ (scripted (out_in f P m) e).script) (b : Bool) (eb : b ≡ has_script y) where
    by_script : (v : Sized) → is_there v ≡ true → (z : ScriptAt) → b ≡ has_script z → b ≡ false → Err MissingOutputScript ≡ measure_by v (script_in f e z)
    unfolding measure_by is_there script_in has_script
    by_script missing q z r t = never_true q
    by_script misfit q z r t = never_true q
    by_script (is v) q Missing r t = refl
    by_script (is v) q (InFile s n) r t = never_true (sym t ∙ r)
    by_script (is v) q InTable r t = never_true (sym t ∙ r)

    with_script : (v : Sized) → is_there v ≡ true → (z : ScriptAt) → b ≡ has_script z → b ≡ true
        → Ok (out_length (script_length f e z)) ≡ measure_by v (script_in f e z)
    unfolding measure_by is_there script_in has_script script_length script_bytes
    with_script missing q z r t = never_true q
    with_script misfit q z r t = never_true q
    with_script (is v) q Missing r t = never_true (sym r ∙ t)
    with_script (is v) q (InFile s n) r t = refl
    with_script (is v) q InTable r t = refl

    there : is_there (scripted (out_in f P m) e).amount ≡ true
    there = ap is_there amount_is ∙ there_in 8 f x ∙ sym ea ∙ h

    pub len_script : b ≡ false → Err MissingOutputScript ≡ out_measure (scripted (out_in f P m) e)
    unfolding out_measure
    len_script t = by_script (scripted (out_in f P m) e).amount there y eb t ∙ ap (measure_by (scripted (out_in f P m) e).amount) ey

    pub len_takes : b ≡ true → (l : ℕ) → l ≡ script_length f e y → (n : ℕ) → n ≡ out_length l → Ok n ≡ out_measure (scripted (out_in f P m) e)
    unfolding out_measure
    len_takes t l el n en =
        ap Ok (en ∙ ap out_length el) ∙ with_script (scripted (out_in f P m) e).amount there y eb t ∙ ap (measure_by (scripted (out_in f P m) e).amount) ey

pub ruleset lens = (len_amount, len_script, len_takes, script_few)

-- the output of its map's entry, with its script by now
pub out_at_lem : (f P M : List ℕ) (s : Psbt) (t : State) (T : List ℕ) (i : ℕ) (m : MapEntry) (e : List ℕ)
    → m ≡ map_at M (1 + s.inputs + i) → e ≡ entry_at (set_so_far t T) i → out_now f P M s t T i ≡ scripted (out_in f P m) e
unfolding out_now out_at out_in pairs_of
out_at_lem f P M s t T i m e p q = ap₂ (λ (x : MapEntry) (y : List ℕ). scripted (out_in f P x) y) (sym p) (sym q)

-- measuring outputs from number i on gives what measuring all gives
pub record Measuring (f P M : List ℕ) (s : Psbt) (t : State) (T : List ℕ) (first i total : ℕ) : Type 0 where
  pub is : outs_measure (from (out_now f P M s t T) i (s.outputs - i)) total ≡ outs_measure (outs_now f P M s t T) first

pub measure_first : (f P M : List ℕ) (s : Psbt) (t : State) (T : List ℕ) (first : ℕ) → Measuring f P M s t T first 0 first
unfolding outs_now
measure_first f P M s t T first = record { is = ap (λ (l : List Out). outs_measure l first) (rest_all (out_now f P M s t T) s.outputs) }

module _ (f P M : List ℕ) (s : Psbt) (t : State) (T : List ℕ) (first i total : ℕ) (k : Measuring f P M s t T first i total) where
  pub measure_done : s.outputs ≤ i → Ok total ≡ outs_measure (outs_now f P M s t T) first
  unfolding outs_measure
  measure_done h = sym (ap (λ (l : List Out). outs_measure l total) (rest_none (out_now f P M s t T) i s.outputs h)) ∙ k.is

  module _ (h : i < s.outputs) (m : MapEntry) (em : m ≡ map_at M (1 + s.inputs + i)) (e : List ℕ) (ee : e ≡ entry_at (set_so_far t T) i)
      (r : Measure) (q : r ≡ out_measure (scripted (out_in f P m) e)) where
    step : (y : Measure) → r ≡ y
        → outs_measure (outs_now f P M s t T) first ≡ more_by (outs_measure (from (out_now f P M s t T) (i + 1) (s.outputs - (i + 1)))) total y
    unfolding outs_measure
    step y w =
        sym k.is ∙ ap (λ (l : List Out). outs_measure l total) (rest_one (out_now f P M s t T) i s.outputs h)
        ∙ ap (more_by (outs_measure (from (out_now f P M s t T) (i + 1) (s.outputs - (i + 1)))) total)
        (ap out_measure (out_at_lem f P M s t T i m e em ee) ∙ sym q ∙ w)

    pub measure_stop : (x : PsbtError) → r ≡ Err x → Err x ≡ outs_measure (outs_now f P M s t T) first
    unfolding more_by
    measure_stop x w = sym (step (Err x) w)

    pub measure_more : (n : ℕ) → r ≡ Ok n → (c : ℕ) → c ≡ capped (total + n) → Measuring f P M s t T first (i + 1) c
    unfolding more_by
    measure_more n w c ec = record { is = ap (outs_measure (from (out_now f P M s t T) (i + 1) (s.outputs - (i + 1)))) ec ∙ sym (step (Ok n) w) }

pub ruleset measures = (measure_first, measure_done, measure_stop, measure_more)

-- the whole
pub tx_measured : (s : Psbt) (outs : List Out) (n : ℕ) → n ≡ capped (fixed_length s.inputs s.outputs)
    → (r : Measure) → r ≡ outs_measure outs n → r ≡ tx_measure s outs
unfolding tx_measure
tx_measured s outs n e r q = q ∙ ap (outs_measure outs) e
