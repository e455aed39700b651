-- A transaction's bytes end in its lock time.
use mathlib.Core.Path.{◌≡◌, refl, sym, ◌∙◌, ap}
use mathlib.Core.List.{List, [], ◌∷◌, ◌++◌, append_assoc}
use Prim.Native.Nat.{ℕ, ◌-◌, ◌^◌, ◌<◌}
use native.Mathlib.Omega.{arith}
use lib.ListN.{length, drop, length-append}
use lib.Seq.{drop_at}
use Rattle.format.specs.Numbers.{bytes_of}
use Rattle.format.specs.Content.{Found, absent, found}
use Rattle.format.specs.Locks.{Sized, missing, misfit, is, In}
use Rattle.format.specs.Scripts.{Out, script_entry}
use Rattle.format.specs.Transaction.{Tx, refuses, writes, ahead, needs, input_then, inputs_then, needs_script, output_then, outputs_then, tx_with}
use Rattle.format.specs.declared.PsbtError.{PsbtError}
use Rattle.format.specs.declared.Psbt.{Psbt}
use Rattle.format.proofs.Numbers.{length_bytes_of, le_bytes_of}
use Rattle.claims_lock.specs.Honours.{lock_in}

pub never_writes : {A : Type 0} {e : PsbtError} {b : List ℕ} → refuses e ≡ writes b → A
never_writes q = let z : ◌≡◌ {A = ℕ} 0 1 = cc in absurd (omega arith)

module _ (c : List ℕ) where
  abbrev Ends : Tx → Type 0
  Ends t = (b : List ℕ) → t ≡ writes b → (a : List ℕ) × (b ≡ a ++ c)

  ends_ahead : (d : List ℕ) (t : Tx) → Ends t → Ends (ahead d t)
  unfolding ahead
  ends_ahead d (refuses e) h b q = h b q
  ends_ahead d (writes x) h b q =
      let e : b ≡ d ++ x = cc in
      let r = h x refl in
      (d ++ r.0, e ∙ ap (λ (y : List ℕ). d ++ y) r.1 ∙ sym (append_assoc d r.0 c))

  ends_needs : (f : Sized) (k : List ℕ → Tx) → ((v : List ℕ) → Ends (k v)) → Ends (needs f k)
  unfolding needs
  ends_needs missing k h b q = never_writes q
  ends_needs misfit k h b q = never_writes q
  ends_needs (is v) k h b q = h v b q

  ends_script : (f : Found) (k : List ℕ → Tx) → ((v : List ℕ) → Ends (k v)) → Ends (needs_script f k)
  unfolding needs_script
  ends_script absent k h b q = never_writes q
  ends_script (found v) k h b q = h v b q

  ends_inputs : (xs : List In) (t : Tx) → Ends t → Ends (inputs_then xs t)
  unfolding inputs_then input_then
  ends_inputs [] t h = h
  ends_inputs (x ∷ xs) t h = ends_needs _ _ (λ a. ends_needs _ _ (λ b. ends_needs _ _ (λ s. ends_ahead _ _ (ends_inputs xs t h))))

  ends_outputs : (os : List Out) (T : List ℕ) (t : Tx) → Ends t → Ends (outputs_then os T t)
  unfolding outputs_then output_then
  ends_outputs [] T t h = h
  ends_outputs (o ∷ os) T t h = ends_needs _ _ (λ a. ends_script _ _ (λ s. ends_ahead _ _ (ends_outputs os (drop script_entry T) t h)))

pub lock_ends : (s : Psbt) (ins : List In) (outs : List Out) (T : List ℕ) (n : ℕ) (b : List ℕ) → n < 2 ^ 32 → tx_with s ins outs T n ≡ writes b → lock_in b ≡ n
unfolding tx_with lock_in
lock_ends s ins outs T n b h q =
    let w : Ends (bytes_of 4 n) (writes (bytes_of 4 n)) = λ x e. ([], (cc)) in
    let r = ends_ahead (bytes_of 4 n) _ _ (ends_inputs (bytes_of 4 n) ins _ (ends_ahead (bytes_of 4 n) _ _ (ends_outputs (bytes_of 4 n) outs T _ w))) b q in
    let l : length r.0 ≡ length (r.0 ++ bytes_of 4 n) - 4 = omega (arith, length-append r.0 (bytes_of 4 n), length_bytes_of 4 n) in
    rw (r.1, drop_at r.0 (bytes_of 4 n) _ l) (le_bytes_of 4 n h)
