-- Laws of writing the whole: version, counts and lock time around inputs and outputs, and the room that each has.
use mathlib.Core.Path.{◌≡◌, ◌∙◌, ap}
use mathlib.Core.Bool.{true}
use mathlib.Core.List.{List, [], ◌∷◌}
use Prim.Native.Nat.{ℕ, ◌+◌, ◌*◌, ◌≤◌}
use native.Mathlib.Omega.{arith}
use borrow.Author.Tests.{leb-true}
use lib.Dec.{leb}
use lib.ListN.{length}
use Rattle.format.specs.Numbers.{bytes_of, unsigned}
use Rattle.format.specs.Compact.{shortest}
use Rattle.format.specs.Locks.{In}
use Rattle.format.specs.Scripts.{Out}
use Rattle.format.specs.declared.Psbt.{Psbt}
use Rattle.format.specs.declared.State.{State}
use Rattle.all_maps_fit.specs.Alls.{in_at, ins_of}
use Rattle.all_maps_fit.proofs.Runs.{from_length}
use Rattle.writer.specs.Writes.{wrote, size_length}
use Rattle.writer.proofs.Writes.{length_wrote, wrote_long}
use Rattle.tx_size.specs.Lengths.{input_length, outs_length, fixed_length}
use Rattle.tx_size.specs.Places.{out_now, outs_now}
use Rattle.tx_bytes.specs.Puts.{put, put_input, put_inputs, put_output, put_outputs, put_lock, put_rest_def, put_front, put_tx}
use Rattle.tx_bytes.specs.Rooms.{FrontRoom, RestRoom, TxRoom}
use Rattle.tx_bytes.proofs.Inputs.{length_input}
use Rattle.tx_bytes.proofs.Outputs.{length_output}

-- the numbers of inputs and outputs
pub ins_count : (f P M : List ℕ) (s : Psbt) → length (ins_of f P M s) ≡ s.inputs
unfolding ins_of
ins_count f P M s = from_length (in_at f P M) 0 s.inputs

pub outs_count : (f P M : List ℕ) (s : Psbt) (t : State) (T : List ℕ) → length (outs_now f P M s t T) ≡ s.outputs
unfolding outs_now
outs_count f P M s t T = from_length (out_now f P M s t T) 0 s.outputs

-- the places behind inputs and outputs
ins_place : (xs : List In) (B : List ℕ) (at a : ℕ) (B₁ : List ℕ) → put a B₁ ≡ put_inputs B at xs → (a ≡ at + length xs * input_length) × (length B₁ ≡ length B)
unfolding put_inputs
ins_place [] B at a B₁ h = let x : a ≡ at = cc in let y : B₁ ≡ B = cc in (omega arith, ap length y)
ins_place (x ∷ xs) B at a B₁ h =
    let i : (a ≡ at + input_length + length xs * input_length) × (length B₁ ≡ length (put_input B at x))
    = ins_place xs (put_input B at x) (at + input_length) a B₁ h in
    (omega (arith, i.0), i.1 ∙ length_input B at x)

outs_place : (os : List Out) (B : List ℕ) (at a : ℕ) (B₁ : List ℕ) → put a B₁ ≡ put_outputs B at os → (a ≡ at + outs_length os) × (length B₁ ≡ length B)
unfolding put_outputs outs_length
outs_place [] B at a B₁ h = let x : a ≡ at = cc in let y : B₁ ≡ B = cc in (omega arith, ap length y)
outs_place (o ∷ os) B at a B₁ h =
    let i = outs_place os (put_output B at o.amount _) (at + _) a B₁ h in
    (omega (arith, i.0), i.1 ∙ length_output B at o.amount _)

-- version, count and inputs
pub front_is : (f P M : List ℕ) (s : Psbt) (B B₁ : List ℕ) → B₁ ≡ wrote B 0 (bytes_of 4 (unsigned s.tx_version))
    → (B₂ : List ℕ) → B₂ ≡ wrote B₁ 4 (shortest s.inputs) → (a to : ℕ) → a ≡ size_length s.inputs → to ≡ 4 + a
    → (r : ℕ) (B₃ : List ℕ) → put r B₃ ≡ put_inputs B₂ to (ins_of f P M s) → put r B₃ ≡ put_front B s (ins_of f P M s)
unfolding put_front
front_is f P M s B B₁ e₁ B₂ e₂ a to ea et r B₃ q = q ∙ rw (e₂, e₁, et, ea, ins_count f P M s)

-- count, outputs and lock time
module _ (f P M : List ℕ) (s : Psbt) (t : State) (T : List ℕ) (at : ℕ) (B B₁ : List ℕ) (e₁ : B₁ ≡ wrote B at (shortest s.outputs)) (b to : ℕ)
    (eb : b ≡ size_length s.outputs)
    (et : to ≡ at + b) (d : ℕ) (B₂ : List ℕ) (e₂ : put d B₂ ≡ put_outputs B₁ to (outs_now f P M s t T)) where
  pub rest_lock : RestRoom f P M s t T at (length B) → (k : ℕ) → leb k 4 ≡ true → d + k ≤ length B₂
  rest_lock r k few =
      let p = outs_place (outs_now f P M s t T) B₁ to d B₂ e₂ in
      omega (arith, r.room, wrote_long B B₁ at (shortest s.outputs) e₁, p.0, p.1, leb-true k 4 few)

  pub rest_is : (n : ℕ) (B₃ : List ℕ) → B₃ ≡ wrote B₂ d (bytes_of 4 n) → B₃ ≡ put_rest_def (outs_now f P M s t T) n (put at B)
  unfolding put_rest_def put_lock
  rest_is n B₃ q =
      let w : put d B₂ ≡ put_outputs (wrote B at (shortest (length (outs_now f P M s t T))))
      (at + size_length (length (outs_now f P M s t T))) (outs_now f P M s t T)
      = e₂ ∙ rw (e₁, et, eb, outs_count f P M s t T) in
      q ∙ ap (put_lock n) w

-- both
module _ (f P M : List ℕ) (s : Psbt) (t : State) (T B : List ℕ) (k : TxRoom f P M s t T (length B)) where
  pub tx_front : FrontRoom f P M s (length B)
  unfolding fixed_length
  tx_front = record { all_fit = k.all_fit; room = omega (arith, k.room) }

  module _ (a : ℕ) (B₁ : List ℕ) (e : put a B₁ ≡ put_front B s (ins_of f P M s)) where
    pub tx_rest : RestRoom f P M s t T a (length B₁)
    unfolding fixed_length put_front
    tx_rest =
        let p = ins_place (ins_of f P M s) _ _ a B₁ e in
        let v : List ℕ = bytes_of 4 (unsigned s.tx_version) in
        let long : length (wrote (wrote B 0 v) 4 (shortest (length (ins_of f P M s)))) ≡ length B = rw (length_wrote, length_wrote) in
        record { all_fit = k.all_fit; room = omega (arith, k.room, p.0, p.1, ins_count f P M s, ap size_length (ins_count f P M s), long) }

    pub tx_is : (n : ℕ) (B₂ : List ℕ) → B₂ ≡ put_rest_def (outs_now f P M s t T) n (put a B₁) → B₂ ≡ put_tx B s (ins_of f P M s) (outs_now f P M s t T) n
    unfolding put_tx
    tx_is n B₂ q = q ∙ ap (put_rest_def (outs_now f P M s t T) n) e

pub ruleset txs = (tx_front, tx_rest, tx_is)
