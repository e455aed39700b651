-- The definition's transaction, by its parts: their bytes where nothing is missing, and else the refusal of the first part that misses something.
use mathlib.Core.Path.{◌≡◌, refl, sym, ◌∙◌, ap}
use mathlib.Core.Bool.{Bool, true, false, ◌&&◌}
use mathlib.Core.List.{List, [], ◌∷◌, ◌++◌, append_assoc}
use Prim.Native.Nat.{ℕ, suc, ◌+◌}
use lib.ListN.{length, take, drop}
use Rattle.format.specs.Tests.{every}
use Rattle.format.specs.Numbers.{bytes_of, unsigned}
use Rattle.format.specs.Compact.{shortest}
use Rattle.format.specs.Content.{Found, absent, found}
use Rattle.format.specs.Locks.{Sized, missing, misfit, is, In}
use Rattle.format.specs.Scripts.{Out, script_entry}
use Rattle.format.specs.Transaction.{Tx, refuses, writes, ahead, needs, needs_script, or_final, script_of, input_then, inputs_then, output_then, outputs_then}
use Rattle.format.specs.Transaction.{tx_with}
use Rattle.format.specs.declared.PsbtError.{PsbtError}
use Rattle.format.specs.declared.PsbtError.TheVariants.{BadValue, MissingOutputScript}
use Rattle.format.specs.declared.Psbt.{Psbt}
use Rattle.format.proofs.Tests.{never_true, and_left, and_right}
use Rattle.tx_size.specs.Lengths.{is_there, scripted, script_bytes, out_length, capped, measure_by, out_measure, more_by, outs_measure, Measure}
use Rattle.std.specs.Prelude.{Ok, Err}
use Rattle.tx_size.proofs.Lengths.{takes_not, more_takes}
use Rattle.tx_bytes.specs.Bytes.{bytes_in, input_ok_def, input_bytes, inputs_bytes, out_bytes, outs_bytes, tx_bytes}
use Rattle.unsigned_tx.specs.Surveys.{all_scripted}

-- a field that is there, and one that is not
needs_there : (x : Sized) (k : List ℕ → Tx) → is_there x ≡ true → needs x k ≡ k (bytes_in x)
unfolding needs is_there bytes_in
needs_there missing k h = never_true h
needs_there misfit k h = never_true h
needs_there (is v) k h = refl

needs_not : (x : Sized) (k : List ℕ → Tx) → is_there x ≡ false → needs x k ≡ refuses BadValue
unfolding needs is_there
needs_not missing k h = refl
needs_not misfit k h = refl
needs_not (is v) k h = never_true (sym h)

ahead_both : (a b : List ℕ) (t : Tx) → ahead a (ahead b t) ≡ ahead (a ++ b) t
unfolding ahead
ahead_both a b (refuses e) = refl
ahead_both a b (writes x) = ap writes (sym (append_assoc a b x))

ahead_nothing : (t : Tx) → ahead [] t ≡ t
unfolding ahead
ahead_nothing (refuses e) = refl
ahead_nothing (writes x) = refl

ahead_refused : (b : List ℕ) (e : PsbtError) → ahead b (refuses e) ≡ refuses e
unfolding ahead
ahead_refused b e = refl

-- inputs
input_ok : (x : In) (t : Tx) → input_ok_def x ≡ true → input_then x t ≡ ahead (input_bytes x) t
unfolding input_then input_ok_def input_bytes
input_ok x t h = by (is_there x.txid) refl (is_there x.index) refl h
  where
    by : (a : Bool) → is_there x.txid ≡ a → (b : Bool) → is_there x.index ≡ b → (a && (b && is_there (or_final x.sequence))) ≡ true
        → input_then x t ≡ ahead (input_bytes x) t
    by false p b q h = never_true h
    by true p false q h = never_true h
    by true p true q h = rw (needs_there x.txid _ p) (rw (needs_there x.index _ q) (needs_there (or_final x.sequence) _ h))

input_bad : (x : In) (t : Tx) → input_ok_def x ≡ false → input_then x t ≡ refuses BadValue
unfolding input_then input_ok_def
input_bad x t h = by (is_there x.txid) refl (is_there x.index) refl h
  where
    by : (a : Bool) → is_there x.txid ≡ a → (b : Bool) → is_there x.index ≡ b → (a && (b && is_there (or_final x.sequence))) ≡ false
        → input_then x t ≡ refuses BadValue
    by false p b q h = needs_not x.txid _ p
    by true p false q h = needs_there x.txid _ p ∙ needs_not x.index _ q
    by true p true q h = needs_there x.txid _ p ∙ needs_there x.index _ q ∙ needs_not (or_final x.sequence) _ h

inputs_ok : (xs : List In) (t : Tx) → every input_ok_def xs ≡ true → inputs_then xs t ≡ ahead (inputs_bytes xs) t
unfolding inputs_then inputs_bytes every
inputs_ok [] t h = sym (ahead_nothing t)
inputs_ok (x ∷ xs) t h =
    input_ok x (inputs_then xs t) (and_left (input_ok_def x) (every input_ok_def xs) h)
    ∙ ap (ahead (input_bytes x)) (inputs_ok xs t (and_right (input_ok_def x) (every input_ok_def xs) h))
    ∙ ahead_both (input_bytes x) (inputs_bytes xs) t

inputs_bad : (xs : List In) (t : Tx) → every input_ok_def xs ≡ false → inputs_then xs t ≡ refuses BadValue
unfolding inputs_then every
inputs_bad [] t h = never_true (sym h)
inputs_bad (x ∷ xs) t h = by (input_ok_def x) refl h (inputs_bad xs t)
  where
    by : (b : Bool) → input_ok_def x ≡ b → (b && every input_ok_def xs) ≡ false → (every input_ok_def xs ≡ false → inputs_then xs t ≡ refuses BadValue)
        → inputs_then (x ∷ xs) t ≡ refuses BadValue
    by false q h r = input_bad x (inputs_then xs t) q
    by true q h r = input_ok x (inputs_then xs t) q ∙ ap (ahead (input_bytes x)) (r h) ∙ ahead_refused (input_bytes x) BadValue

-- outputs
module _ (t : Tx) where
  out_both : Sized → Found → Tx
  out_both a f = needs a (λ v. needs_script f (λ s. ahead (v ++ (shortest (length s) ++ s)) t))

  out_takes : (a : Sized) (f : Found) (w : ℕ) → measure_by a f ≡ Ok w → out_both a f ≡ ahead (out_bytes a (script_bytes f)) t
  unfolding out_both measure_by needs needs_script out_bytes bytes_in script_bytes
  out_takes missing f w h = takes_not BadValue w h
  out_takes misfit f w h = takes_not BadValue w h
  out_takes (is v) absent w h = takes_not MissingOutputScript w h
  out_takes (is v) (found s) w h = refl

  out_refused : (a : Sized) (f : Found) (e : PsbtError) → measure_by a f ≡ Err e → out_both a f ≡ refuses e
  unfolding out_both measure_by needs needs_script
  out_refused missing f e h = let x : BadValue ≡ e = cc in ap refuses x
  out_refused misfit f e h = let x : BadValue ≡ e = cc in ap refuses x
  out_refused (is v) absent e h = let x : MissingOutputScript ≡ e = cc in ap refuses x
  out_refused (is v) (found s) e h = takes_not e (out_length (length s)) (sym h)

-- by the first output's measure
more_refused : {R : Type 0} (f : ℕ → Measure) (n : ℕ) (e : PsbtError) (o : Measure) → more_by f n o ≡ Err e
    → (o ≡ Err e → R) → ((w : ℕ) → o ≡ Ok w → f (capped (n + w)) ≡ Err e → R) → R
unfolding more_by
more_refused f n e (Err x) h a b = a h
more_refused f n e (Ok w) h a b = b w refl h

outs_ok : (os : List Out) (T : List ℕ) (t : Tx) (n k : ℕ) → outs_measure (all_scripted os T) n ≡ Ok k
    → outputs_then os T t ≡ ahead (outs_bytes (all_scripted os T)) t
unfolding outputs_then output_then all_scripted scripted outs_measure out_measure outs_bytes out_both
outs_ok [] T t n k h = sym (ahead_nothing t)
outs_ok (o ∷ os) T t n k h =
    more_takes (outs_measure (all_scripted os (drop script_entry T))) n k (measure_by o.amount (script_of o.script (take script_entry T))) h
    (λ w q r. out_takes (outputs_then os (drop script_entry T) t) o.amount (script_of o.script (take script_entry T)) w q
    ∙ ap (ahead (out_bytes o.amount (script_bytes (script_of o.script (take script_entry T))))) (outs_ok os (drop script_entry T) t (capped (n + w)) k r)
    ∙ ahead_both (out_bytes o.amount (script_bytes (script_of o.script (take script_entry T)))) (outs_bytes (all_scripted os (drop script_entry T))) t)

outs_bad : (os : List Out) (T : List ℕ) (t : Tx) (n : ℕ) (e : PsbtError) → outs_measure (all_scripted os T) n ≡ Err e → outputs_then os T t ≡ refuses e
unfolding outputs_then output_then all_scripted scripted outs_measure out_measure out_both
outs_bad [] T t n e h = takes_not e n (sym h)
outs_bad (o ∷ os) T t n e h =
    more_refused (outs_measure (all_scripted os (drop script_entry T))) n e (measure_by o.amount (script_of o.script (take script_entry T))) h
    (λ q. out_refused (outputs_then os (drop script_entry T) t) o.amount (script_of o.script (take script_entry T)) e q)
    (λ w q r. out_takes (outputs_then os (drop script_entry T) t) o.amount (script_of o.script (take script_entry T)) w q
    ∙ ap (ahead (out_bytes o.amount (script_bytes (script_of o.script (take script_entry T))))) (outs_bad os (drop script_entry T) t (capped (n + w)) e r)
    ∙ ahead_refused (out_bytes o.amount (script_bytes (script_of o.script (take script_entry T)))) e)

-- the whole
scripted_length : (os : List Out) (T : List ℕ) → length (all_scripted os T) ≡ length os
unfolding all_scripted
scripted_length [] T = refl
scripted_length (o ∷ os) T = ap suc (scripted_length os (drop script_entry T))

module _ (s : Psbt) (ins : List In) (os : List Out) (T : List ℕ) (n : ℕ) where
  pub tx_bad_input : every input_ok_def ins ≡ false → tx_with s ins os T n ≡ refuses BadValue
  unfolding tx_with
  tx_bad_input h = ap (ahead _) (inputs_bad ins _ h) ∙ ahead_refused _ BadValue

  module _ (h : every input_ok_def ins ≡ true) (m : ℕ) where
    pub tx_bad_output : (e : PsbtError) → outs_measure (all_scripted os T) m ≡ Err e → tx_with s ins os T n ≡ refuses e
    unfolding tx_with ahead
    tx_bad_output e q =
        ap (λ (t : Tx). ahead (bytes_of 4 (unsigned s.tx_version) ++ shortest (length ins)) (inputs_then ins (ahead (shortest (length os)) t)))
        (outs_bad os T (writes (bytes_of 4 n)) m e q)
        ∙ ap (ahead (bytes_of 4 (unsigned s.tx_version) ++ shortest (length ins))) (inputs_ok ins (refuses e) h)

    pub tx_ok : (k : ℕ) → outs_measure (all_scripted os T) m ≡ Ok k → tx_with s ins os T n ≡ writes (tx_bytes s ins (all_scripted os T) n)
    unfolding tx_with tx_bytes ahead
    tx_ok k q =
        ap (λ (t : Tx). ahead (bytes_of 4 (unsigned s.tx_version) ++ shortest (length ins)) (inputs_then ins (ahead (shortest (length os)) t)))
        (outs_ok os T (writes (bytes_of 4 n)) m k q)
        ∙ ap (ahead (bytes_of 4 (unsigned s.tx_version) ++ shortest (length ins))) (inputs_ok ins _ h)
        ∙ rw (scripted_length os T)
