-- The bytes of a transaction: their lengths, and that writing part behind part writes them.
use mathlib.Core.Path.{◌≡◌, refl, ◌∙◌, ap, ap₂}
use mathlib.Core.Bool.{true}
use mathlib.Core.List.{List, [], ◌∷◌, ◌++◌, append_assoc}
use Prim.Native.Nat.{ℕ, zero, suc, ◌+◌, ◌*◌}
use native.Mathlib.Omega.{arith}
use borrow.Author.Tests.{eqb-true}
use lib.Dec.{eqb}
use lib.ListN.{length, length-append}
use Rattle.format.specs.Tests.{every}
use Rattle.format.specs.Numbers.{bytes_of, unsigned}
use Rattle.format.specs.Compact.{shortest}
use Rattle.format.specs.Content.{Found, absent, found}
use Rattle.format.specs.Locks.{Sized, missing, misfit, is, In, sized_to, in_of}
use Rattle.format.specs.Scripts.{Out, out_of}
use Rattle.format.specs.Transaction.{or_final}
use Rattle.format.specs.declared.Psbt.{Psbt}
use Rattle.format.specs.declared.State.{State}
use Rattle.format.proofs.Numbers.{All, length_bytes_of}
use Rattle.format.proofs.Tests.{pick_by, never_true, and_left, and_right}
use Rattle.all_maps_fit.specs.Alls.{in_at, out_at, from, ins_of}
use Rattle.writer.specs.Writes.{wrote, size_length}
use Rattle.writer.proofs.Writes.{wrote_append, wrote_then, wrote_none}
use Rattle.tx_size.specs.Lengths.{is_there, scripted, script_bytes, input_length, out_length, outs_length, capped, measure_by, out_measure, outs_measure}
use Rattle.tx_size.specs.Lengths.{fixed_length}
use Rattle.tx_size.specs.Places.{out_now, outs_now}
use Rattle.std.specs.Prelude.{Ok}
use Rattle.tx_size.proofs.Lengths.{more_takes, measure_is}
use Rattle.tx_bytes.specs.Bytes.{bytes_in, input_ok_def, input_bytes, inputs_bytes, out_bytes, outs_bytes, tx_bytes}
use Rattle.tx_bytes.specs.Puts.{put, put_input, put_inputs, put_output, put_outputs, put_lock, put_rest_def, put_front, put_tx}

-- fields have their lengths
pub record SizedTo (w : ℕ) (x : Sized) : Type 0 where
  pub long : (v : List ℕ) → x ≡ is v → length v ≡ w

sized_to_lem : (w : ℕ) (y : Found) → SizedTo w (sized_to w y)
unfolding sized_to
sized_to_lem w absent = record { long = λ v h. let z : ◌≡◌ {A = ℕ} 0 1 = cc in absurd (omega arith) }
sized_to_lem w (found v) =
    pick_by (SizedTo w) (eqb (length v) w) _ _
    (λ q. record { long = λ u h. let x : v ≡ u = cc in rw (← x) (eqb-true (length v) w q) })
    (λ q. record { long = λ u h. let z : ◌≡◌ {A = ℕ} 0 1 = cc in absurd (omega arith) })

final_to : (x : Sized) → SizedTo 4 x → SizedTo 4 (or_final x)
unfolding or_final
final_to missing k = record { long = λ v h. let x : 0xff ∷ 0xff ∷ 0xff ∷ 0xff ∷ [] ≡ v = cc in rw (← x) refl }
final_to misfit k = k
final_to (is v) k = k

there_long : (w : ℕ) (x : Sized) → SizedTo w x → is_there x ≡ true → length (bytes_in x) ≡ w
unfolding is_there bytes_in
there_long w missing k h = never_true h
there_long w misfit k h = never_true h
there_long w (is v) k h = k.long v refl

pub record SizedIn (x : In) : Type 0 where
  pub txid= : SizedTo 32 x.txid
  pub index= : SizedTo 4 x.index
  pub sequence= : SizedTo 4 x.sequence

pub record SizedOut (o : Out) : Type 0 where
  pub amount= : SizedTo 8 o.amount

-- of the inputs and outputs that the tables show
all_from : {A : Type 0} (Q : A → Type 0) (g : ℕ → A) → ((i : ℕ) → Q (g i)) → (i n : ℕ) → All Q (from g i n)
unfolding from
all_from Q g h i zero = tt
all_from Q g h i (suc n) = (h i, all_from Q g h (i + 1) n)

pub sized_ins : (f P M : List ℕ) (s : Psbt) → All SizedIn (ins_of f P M s)
unfolding ins_of in_at in_of
sized_ins f P M s =
    all_from SizedIn (in_at f P M)
    (λ i. record { txid= = sized_to_lem 32 _; index= = sized_to_lem 4 _; sequence= = sized_to_lem 4 _ }) 0 s.inputs

pub sized_outs : (f P M : List ℕ) (s : Psbt) (t : State) (T : List ℕ) → All SizedOut (outs_now f P M s t T)
unfolding outs_now out_now scripted out_at out_of
sized_outs f P M s t T = all_from SizedOut (out_now f P M s t T) (λ i. record { amount= = sized_to_lem 8 _ }) 0 s.outputs

-- an input takes as many bytes as was measured, and is written as they are
module _ (x : In) (k : SizedIn x) (h : input_ok_def x ≡ true) where
  txid_long : length (bytes_in x.txid) ≡ 32
  unfolding input_ok_def
  txid_long = there_long 32 x.txid k.txid= (and_left (is_there x.txid) _ h)

  index_long : length (bytes_in x.index) ≡ 4
  unfolding input_ok_def
  index_long = there_long 4 x.index k.index= (and_left (is_there x.index) _ (and_right (is_there x.txid) _ h))

  sequence_long : length (bytes_in (or_final x.sequence)) ≡ 4
  unfolding input_ok_def
  sequence_long =
      there_long 4 (or_final x.sequence) (final_to x.sequence k.sequence=)
      (and_right (is_there x.index) _ (and_right (is_there x.txid) _ h))

  input_long : length (input_bytes x) ≡ input_length
  unfolding input_bytes
  input_long = rw (length-append, length-append) (omega (arith, txid_long, index_long, sequence_long))

  put_input_lem : (B : List ℕ) (at : ℕ) → put_input B at x ≡ wrote B at (input_bytes x)
  unfolding put_input input_bytes
  put_input_lem B at =
      let two : wrote (wrote B at (bytes_in x.txid)) (at + 32) (bytes_in x.index) ≡ wrote B at (bytes_in x.txid ++ bytes_in x.index)
      = wrote_then B _ _ at (at + 32) (bytes_in x.txid) (bytes_in x.index) refl (omega (arith, txid_long)) refl in
      let three : _ ≡ wrote B at ((bytes_in x.txid ++ bytes_in x.index) ++ (0 ∷ []))
      = wrote_then B _ _ at (at + 36) (bytes_in x.txid ++ bytes_in x.index) (0 ∷ []) two (rw length-append (omega (arith, txid_long, index_long))) refl in
      wrote_then B _ _ at (at + 37) ((bytes_in x.txid ++ bytes_in x.index) ++ (0 ∷ [])) (bytes_in (or_final x.sequence)) three
      (rw (length-append, length-append) (omega (arith, txid_long, index_long))) refl
      ∙ ap (wrote B at) (append_assoc (bytes_in x.txid ++ bytes_in x.index) (0 ∷ []) _ ∙ append_assoc (bytes_in x.txid) (bytes_in x.index) _)

inputs_long : (xs : List In) → All SizedIn xs → every input_ok_def xs ≡ true → length (inputs_bytes xs) ≡ length xs * input_length
unfolding inputs_bytes every
inputs_long [] k h = refl
inputs_long (x ∷ xs) k h =
    let i = inputs_long xs k.1 (and_right (input_ok_def x) (every input_ok_def xs) h) in
    let j = input_long x k.0 (and_left (input_ok_def x) (every input_ok_def xs) h) in
    rw length-append (omega (arith, i, j))

put_inputs_lem : (xs : List In) → All SizedIn xs → every input_ok_def xs ≡ true → (B : List ℕ) (at : ℕ)
    → put_inputs B at xs ≡ put (at + length (inputs_bytes xs)) (wrote B at (inputs_bytes xs))
unfolding put_inputs inputs_bytes every
put_inputs_lem [] k h B at = let z : at + 0 ≡ at = omega arith in rw (z, wrote_none B at)
put_inputs_lem (x ∷ xs) k h B at =
    let a : input_ok_def x ≡ true = and_left (input_ok_def x) (every input_ok_def xs) h in
    let j = input_long x k.0 a in
    rw (put_input_lem x k.0 a B at)
    (put_inputs_lem xs k.1 (and_right (input_ok_def x) (every input_ok_def xs) h) (wrote B at (input_bytes x)) (at + input_length)
    ∙ ap₂ put (rw length-append (omega (arith, j))) (wrote_then B _ _ at (at + input_length) (input_bytes x) (inputs_bytes xs) refl (omega (arith, j)) refl))

-- an output, likewise
module _ (a : Sized) (k : SizedTo 8 a) (h : is_there a ≡ true) (s : List ℕ) where
  amount_long : length (bytes_in a) ≡ 8
  amount_long = there_long 8 a k h

  out_long : length (out_bytes a s) ≡ out_length (length s)
  unfolding out_bytes out_length size_length
  out_long = rw (length-append, length-append) (omega (arith, amount_long))

  put_output_lem : (B : List ℕ) (at : ℕ) → put_output B at a s ≡ wrote B at (out_bytes a s)
  unfolding put_output out_bytes size_length
  put_output_lem B at =
      let two : wrote (wrote B at (bytes_in a)) (at + 8) (shortest (length s)) ≡ wrote B at (bytes_in a ++ shortest (length s))
      = wrote_then B _ _ at (at + 8) (bytes_in a) (shortest (length s)) refl (omega (arith, amount_long)) refl in
      wrote_then B _ _ at (at + 8 + length (shortest (length s))) (bytes_in a ++ shortest (length s)) s two (rw length-append (omega (arith, amount_long))) refl
      ∙ ap (wrote B at) (append_assoc (bytes_in a) (shortest (length s)) s)

outs_long : (os : List Out) (n k : ℕ) → All SizedOut os → outs_measure os n ≡ Ok k → length (outs_bytes os) ≡ outs_length os
unfolding outs_measure out_measure outs_bytes outs_length
outs_long [] n k a h = refl
outs_long (o ∷ os) n k a h =
    more_takes (outs_measure os) n k (measure_by o.amount o.script) h
    (λ w q r.
    let i = outs_long os (capped (n + w)) k a.1 r in
    let j = out_long o.amount a.0.amount= (measure_is o.amount o.script w q).1 (script_bytes o.script) in
    rw length-append (omega (arith, i, j)))

put_outputs_lem : (os : List Out) (n k : ℕ) → All SizedOut os → outs_measure os n ≡ Ok k → (B : List ℕ) (at : ℕ)
    → put_outputs B at os ≡ put (at + length (outs_bytes os)) (wrote B at (outs_bytes os))
unfolding outs_measure out_measure put_outputs outs_bytes
put_outputs_lem [] n k a h B at = let z : at + 0 ≡ at = omega arith in rw (z, wrote_none B at)
put_outputs_lem (o ∷ os) n k a h B at =
    more_takes (outs_measure os) n k (measure_by o.amount o.script) h
    (λ w q r.
    let t : is_there o.amount ≡ true = (measure_is o.amount o.script w q).1 in
    let j = out_long o.amount a.0.amount= t (script_bytes o.script) in
    rw (put_output_lem o.amount a.0.amount= t (script_bytes o.script) B at)
    (put_outputs_lem os (capped (n + w)) k a.1 r (wrote B at (out_bytes o.amount (script_bytes o.script)))
    (at + out_length (length (script_bytes o.script)))
    ∙ ap₂ put (rw length-append (omega (arith, j)))
    (wrote_then B _ _ at (at + out_length (length (script_bytes o.script))) (out_bytes o.amount (script_bytes o.script))
    (outs_bytes os) refl (omega (arith, j)) refl)))

-- the whole transaction has the length that was measured, and is written as its bytes are
module _ (s : Psbt) (ins : List In) (outs : List Out) (n m k : ℕ) (a : All SizedIn ins) (b : All SizedOut outs)
    (h : every input_ok_def ins ≡ true) (q : outs_measure outs m ≡ Ok k) where
  pub tx_long : length (tx_bytes s ins outs n) ≡ fixed_length (length ins) (length outs) + outs_length outs
  unfolding tx_bytes fixed_length size_length
  tx_long =
      rw (length-append, length-append, length-append, length-append, length-append)
      (omega (arith, inputs_long ins a h, outs_long outs m k b q, length_bytes_of 4 (unsigned s.tx_version), length_bytes_of 4 n))

  put_rest : (B : List ℕ) (at : ℕ) → put_rest_def outs n (put at B) ≡ wrote B at (shortest (length outs) ++ (outs_bytes outs ++ bytes_of 4 n))
  unfolding put_rest_def put_lock size_length
  put_rest B at =
      ap (put_lock n) (put_outputs_lem outs m k b q (wrote B at (shortest (length outs))) (at + length (shortest (length outs))))
      ∙ ap (λ (l : List ℕ). wrote l (at + length (shortest (length outs)) + length (outs_bytes outs)) (bytes_of 4 n))
      (wrote_append B at (shortest (length outs)) (outs_bytes outs))
      ∙ wrote_then B _ _ at (at + length (shortest (length outs)) + length (outs_bytes outs))
      (shortest (length outs) ++ outs_bytes outs) (bytes_of 4 n) refl (rw length-append (omega arith)) refl
      ∙ ap (wrote B at) (append_assoc (shortest (length outs)) (outs_bytes outs) (bytes_of 4 n))

  pub put_tx_lem : (B : List ℕ) → put_tx B s ins outs n ≡ wrote B 0 (tx_bytes s ins outs n)
  unfolding put_tx put_front tx_bytes size_length
  put_tx_lem B =
      let v : List ℕ = bytes_of 4 (unsigned s.tx_version) in
      let c : List ℕ = shortest (length ins) in
      let l : length v ≡ 4 = length_bytes_of 4 (unsigned s.tx_version) in
      let front : wrote (wrote B 0 v) 4 c ≡ wrote B 0 (v ++ c) = wrote_then B _ _ 0 4 v c refl (omega (arith, l)) refl in
      let body : wrote (wrote (wrote B 0 v) 4 c) (4 + length c) (inputs_bytes ins) ≡ wrote B 0 ((v ++ c) ++ inputs_bytes ins)
      = wrote_then B _ _ 0 (4 + length c) (v ++ c) (inputs_bytes ins) front (rw length-append (omega (arith, l))) refl in
      ap (put_rest_def outs n) (put_inputs_lem ins a h (wrote (wrote B 0 v) 4 c) (4 + length c))
      ∙ put_rest (wrote (wrote (wrote B 0 v) 4 c) (4 + length c) (inputs_bytes ins)) (4 + length c + length (inputs_bytes ins))
      ∙ wrote_then B _ _ 0 (4 + length c + length (inputs_bytes ins)) ((v ++ c) ++ inputs_bytes ins) _
      body (rw (length-append, length-append) (omega (arith, l))) refl
      ∙ ap (wrote B 0) (append_assoc (v ++ c) (inputs_bytes ins) _)
