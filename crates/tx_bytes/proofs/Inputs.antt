-- Laws of writing inputs, one for each way through the functions.
use mathlib.Core.Path.{◌≡◌, refl, sym, ◌∙◌, ap}
use mathlib.Core.List.{List}
use Prim.Native.Nat.{ℕ, ◌+◌, ◌-◌, ◌*◌, ◌^◌, ◌≤◌, ◌<◌}
use native.Mathlib.Omega.{arith}
use lib.ListN.{length, drop, length-take}
use mir.Syntax.{w64}
use mir.Val.{Fits}
use Rattle.format.specs.Numbers.{bytes_of}
use Rattle.format.specs.Locks.{In, in_of}
use Rattle.format.specs.Transaction.{or_final}
use Rattle.format.specs.declared.MapEntry.{MapEntry}
use Rattle.format.specs.declared.Psbt.{Psbt}
use Rattle.entries.specs.Words.{map_at}
use Rattle.fitness.specs.Parts.{bytes_at}
use Rattle.all_maps_fit.specs.Alls.{Usable, pairs_of, in_at, from, ins_of}
use Rattle.all_maps_fit.specs.Places.{sized_in, input_in}
use Rattle.all_maps_fit.specs.declared.SizedAt.{SizedAt}
use Rattle.all_maps_fit.specs.declared.SizedAt.TheVariants as S
use Rattle.all_maps_fit.specs.declared.InputAt.{InputAt}
use Rattle.all_maps_fit.proofs.Runs.{rest_none, rest_one, rest_all}
use Rattle.writer.specs.Writes.{wrote}
use Rattle.writer.proofs.Writes.{wrote_none, length_wrote}
use Rattle.tx_size.specs.Lengths.{input_length}
use Rattle.tx_size.specs.Places.{pairs_in}
use Rattle.tx_bytes.specs.Bytes.{bytes_in}
use Rattle.tx_bytes.specs.Puts.{put, put_input, put_inputs}
use Rattle.tx_bytes.specs.Rooms.{in_in, InputRoom, InputsRoom}

-- a field written
module _ (f : List ℕ) (x : SizedAt) (w at : ℕ) (B : List ℕ) where
  pub field_missing : x ≡ S.Missing → B ≡ wrote B at (bytes_in (sized_in w f x))
  unfolding bytes_in sized_in
  field_missing h = sym (ap (λ (y : SizedAt). wrote B at (bytes_in (sized_in w f y))) h ∙ wrote_none B at)

  pub field_misfit : x ≡ S.Misfit → B ≡ wrote B at (bytes_in (sized_in w f x))
  unfolding bytes_in sized_in
  field_misfit h = sym (ap (λ (y : SizedAt). wrote B at (bytes_in (sized_in w f y))) h ∙ wrote_none B at)

  module _ (s : ℕ) (v : List ℕ) (e : v ≡ bytes_at f s w) where
    pub field_room : at + w ≤ length B → at + length v ≤ length B
    unfolding bytes_at
    field_room h = omega (arith, ap length e ∙ length-take w (drop s f))

    pub field_there : x ≡ S.At s → (B₁ : List ℕ) → B₁ ≡ wrote B at v → B₁ ≡ wrote B at (bytes_in (sized_in w f x))
    unfolding bytes_at bytes_in sized_in
    field_there h B₁ q = q ∙ ap (wrote B at) e ∙ sym (ap (λ (y : SizedAt). wrote B at (bytes_in (sized_in w f y))) h)

pub ruleset fields_put = (field_missing, field_misfit, field_room, field_there)

-- a sequence written
module _ (f : List ℕ) (x : SizedAt) (at : ℕ) (B B₁ : List ℕ) where
  pub sequence_missing : x ≡ S.Missing → B₁ ≡ wrote B at (bytes_of 4 0xffff_ffff) → B₁ ≡ wrote B at (bytes_in (or_final (sized_in 4 f x)))
  unfolding bytes_in or_final sized_in bytes_of
  sequence_missing h q = q ∙ sym (ap (λ (y : SizedAt). wrote B at (bytes_in (or_final (sized_in 4 f y)))) h)

  pub sequence_there : (s : ℕ) → x ≡ S.At s → B₁ ≡ wrote B at (bytes_in (sized_in 4 f x)) → B₁ ≡ wrote B at (bytes_in (or_final (sized_in 4 f x)))
  unfolding or_final sized_in
  sequence_there s h q =
      q ∙ ap (λ (y : SizedAt). wrote B at (bytes_in (sized_in 4 f y))) h
      ∙ sym (ap (λ (y : SizedAt). wrote B at (bytes_in (or_final (sized_in 4 f y)))) h)

pub sequence_misfit : (f : List ℕ) (x : SizedAt) (at : ℕ) (B : List ℕ) → x ≡ S.Misfit → B ≡ wrote B at (bytes_in (or_final (sized_in 4 f x)))
unfolding bytes_in or_final sized_in
sequence_misfit f x at B h = sym (ap (λ (y : SizedAt). wrote B at (bytes_in (or_final (sized_in 4 f y)))) h ∙ wrote_none B at)

pub ruleset sequences_put = (sequence_missing, sequence_there, sequence_misfit)

-- the input of its map's entry
in_at_lem : (f P M : List ℕ) (i : ℕ) (m : MapEntry) → m ≡ map_at M (1 + i) → in_at f P M i ≡ in_in f P m
unfolding in_at in_in pairs_of
in_at_lem f P M i m e = ap (λ (x : MapEntry). in_of (pairs_in f P x)) (sym e)

-- an input written
pub input_fields : (f P : List ℕ) (m : MapEntry) (x : InputAt) → input_in f x ≡ in_of (pairs_in f P m)
    → (at : ℕ) (B B₁ B₂ B₃ B₄ : List ℕ) → B₁ ≡ wrote B at (bytes_in (sized_in 32 f x.txid)) → B₂ ≡ wrote B₁ (at + 32) (bytes_in (sized_in 4 f x.index))
    → B₃ ≡ wrote B₂ (at + 36) (bytes_of 1 0) → B₄ ≡ wrote B₃ (at + 37) (bytes_in (or_final (sized_in 4 f x.sequence))) → B₄ ≡ put_input B at (in_in f P m)
unfolding put_input in_in input_in bytes_of
input_fields f P m x e at B B₁ B₂ B₃ B₄ p q r t = t ∙ rw (r, q, p) (ap (put_input B at) e)

pub length_input : (B : List ℕ) (at : ℕ) (x : In) → length (put_input B at x) ≡ length B
unfolding put_input
length_input B at x = rw (length_wrote, length_wrote, length_wrote, length_wrote)

-- writing the inputs from number i on, from here, gives what writing all gives
pub record Putting (f P M : List ℕ) (s : Psbt) (B₀ : List ℕ) (at : ℕ) (B : List ℕ) (i to : ℕ) : Type 0 where
  pub room : to + (s.inputs - i) * input_length ≤ length B
  pub long : length B ≡ length B₀
  pub is : put_inputs B to (from (in_at f P M) i (s.inputs - i)) ≡ put_inputs B₀ at (ins_of f P M s)

pub put_first : (f P M : List ℕ) (s : Psbt) (at : ℕ) (B : List ℕ) → InputsRoom f P M s at (length B) → Putting f P M s B at B 0 at
unfolding ins_of
put_first f P M s at B k = record { room = omega (arith, k.room); long = refl; is = ap (put_inputs B at) (rest_all (in_at f P M) s.inputs) }

module _ (f P M : List ℕ) (s : Psbt) (B₀ : List ℕ) (at : ℕ) (B : List ℕ) (i to : ℕ) (k : Putting f P M s B₀ at B i to) where
  pub put_done : s.inputs ≤ i → put to B ≡ put_inputs B₀ at (ins_of f P M s)
  unfolding put_inputs
  put_done h = sym (ap (put_inputs B to) (rest_none (in_at f P M) i s.inputs h)) ∙ k.is

  module _ (h : i < s.inputs) where
    pub put_room : (m : MapEntry) → Usable f P m → InputRoom f P m to (length B)
    put_room m u = record { usable = u; room = omega (arith, k.room) }

    pub put_to : length B₀ < 2 ^ 64 → Fits w64 (to + input_length)
    put_to g = record { fits = omega (arith, k.room, k.long) }

    pub put_more : (m : MapEntry) → m ≡ map_at M (1 + i) → (B₁ : List ℕ) → B₁ ≡ put_input B to (in_in f P m)
        → Putting f P M s B₀ at B₁ (i + 1) (to + input_length)
    unfolding put_inputs
    put_more m e B₁ q =
        record {
          room = omega (arith, k.room, ap length q ∙ length_input B to (in_in f P m));
          long = ap length q ∙ length_input B to (in_in f P m) ∙ k.long;
          is = ap (λ (b : List ℕ). put_inputs b (to + input_length) (from (in_at f P M) (i + 1) (s.inputs - (i + 1))))
              (q ∙ ap (put_input B to) (sym (in_at_lem f P M i m e)))
              ∙ sym (ap (put_inputs B to) (rest_one (in_at f P M) i s.inputs h)) ∙ k.is;
        }

pub ruleset puttings = (put_first, put_done, put_room, put_to, put_more)
