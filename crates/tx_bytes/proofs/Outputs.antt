-- Laws of writing outputs, one for each way through the functions.
use mathlib.Core.Path.{◌≡◌, refl, sym, ◌∙◌, ap, ap₂}
use mathlib.Core.List.{List, ◌∷◌}
use Prim.Native.Nat.{ℕ, ◌+◌, ◌-◌, ◌^◌, ◌≤◌, ◌<◌}
use native.Mathlib.Omega.{arith}
use lib.ListN.{length, take, drop, length-drop, drop_of_length-le}
use mir.Syntax.{w64}
use mir.Val.{Fits}
use Rattle.format.specs.Compact.{shortest}
use Rattle.format.specs.Content.{Found, field}
use Rattle.format.specs.Locks.{Sized, sized_to}
use Rattle.format.specs.Scripts.{Out, out_of}
use Rattle.format.specs.Transaction.{set_so_far}
use Rattle.format.specs.declared.MapEntry.{MapEntry}
use Rattle.format.specs.declared.Psbt.{Psbt}
use Rattle.format.specs.declared.State.{State}
use Rattle.wire.proofs.Sizes.{part_rest}
use Rattle.entries.specs.Words.{map_at}
use Rattle.fitness.specs.Parts.{bytes_at}
use Rattle.scripts.specs.Tables.{entry_at}
use Rattle.all_maps_fit.specs.Alls.{Usable, from}
use Rattle.all_maps_fit.specs.Places.{sized_in}
use Rattle.all_maps_fit.specs.declared.SizedAt.{SizedAt}
use Rattle.writer.specs.Writes.{wrote, size_length}
use Rattle.writer.proofs.Writes.{length_wrote, wrote_long, wrote_none}
use Rattle.tx_size.specs.Lengths.{scripted, script_bytes, out_length, outs_length}
use Rattle.tx_size.specs.Places.{pairs_in, out_in, out_now, outs_now, script_in, script_length}
use Rattle.tx_size.specs.declared.ScriptAt.{ScriptAt}
use Rattle.tx_size.specs.declared.ScriptAt.TheVariants.{Missing, InFile, InTable}
use Rattle.tx_size.proofs.Scripts.{in_none, in_file_lem, len_file, in_table, len_table}
use Rattle.all_maps_fit.proofs.Runs.{rest_none, rest_one, rest_all}
use Rattle.tx_size.proofs.Outputs.{out_at_lem}
use Rattle.tx_bytes.specs.Bytes.{bytes_in}
use Rattle.tx_bytes.specs.Puts.{put, put_output, put_one, put_outputs}
use Rattle.tx_bytes.specs.Rooms.{OutputRoom, OutputsRoom}

-- a script written, by where it stands
module _ (f e : List ℕ) (x : ScriptAt) where
  pub put_missing : x ≡ Missing → (B : List ℕ) (to : ℕ) → B ≡ wrote B to (script_bytes (script_in f e x))
  put_missing h B to = sym (ap (wrote B to) (sym (in_none f e x h)) ∙ wrote_none B to)

  module _ (s n : ℕ) (h : x ≡ InFile s n) (v : List ℕ) (q : v ≡ bytes_at f s n) where
    pub room_file : (to r : ℕ) → to + script_length f e x ≤ r → to + length v ≤ r
    room_file to r l = omega (arith, len_file f e x s n h v q)

    pub put_file : (B B₁ : List ℕ) (to : ℕ) → B₁ ≡ wrote B to v → B₁ ≡ wrote B to (script_bytes (script_in f e x))
    put_file B B₁ to w = w ∙ ap (wrote B to) (in_file_lem f e x s n h v q)

  module _ (h : x ≡ InTable) where
    pub put_none : length e < 1 → (B : List ℕ) (to : ℕ) → B ≡ wrote B to (script_bytes (script_in f e x))
    put_none l B to =
        let k : length e ≤ 1 = omega arith in
        sym (ap (wrote B to) (sym (in_table f e x h) ∙ drop_of_length-le e k) ∙ wrote_none B to)

    pub room_table : (to n : ℕ) → to + script_length f e x ≤ n → to + length (take (length e - 1) (drop 1 e)) ≤ n
    room_table to n r = rw (part_rest 1 e) (omega (arith, len_table f e x h, length-drop 1 e))

    pub put_table : (B B₁ : List ℕ) (to : ℕ) → B₁ ≡ wrote B to (take (length e - 1) (drop 1 e)) → B₁ ≡ wrote B to (script_bytes (script_in f e x))
    put_table B B₁ to w = w ∙ ap (wrote B to) (part_rest 1 e ∙ in_table f e x h)

pub ruleset script_puts = (put_missing, room_file, put_file, put_none, room_table, put_table)

-- an output written
module _ (f P : List ℕ) (m : MapEntry) (e : List ℕ) (at n : ℕ) (r : OutputRoom f P m e at n) (y : ScriptAt)
    (ey : script_in f e y ≡ (scripted (out_in f P m) e).script)
    (l : ℕ) (el : l ≡ script_length f e y) where
  length_is : l ≡ length (script_bytes (scripted (out_in f P m) e).script)
  unfolding script_length
  length_is = el ∙ ap (λ (z : Found). length (script_bytes z)) ey

  room_is : at + (8 + (size_length l + l)) ≤ n
  unfolding out_length
  room_is = rw length_is r.room

  pub room_8 : at + 8 ≤ n
  room_8 = omega (arith, room_is)

  module _ (k : ℕ) (ek : k ≡ size_length l) where
    pub to_script : n < 2 ^ 64 → Fits w64 (at + 8 + k)
    to_script g = record { fits = omega (arith, room_is) }

    pub to_end : n < 2 ^ 64 → Fits w64 (at + 8 + k + l)
    to_end g = record { fits = omega (arith, room_is) }

module _ (f P : List ℕ) (m : MapEntry) (e : List ℕ) (at : ℕ) (B : List ℕ) (r : OutputRoom f P m e at (length B)) (y : ScriptAt)
    (ey : script_in f e y ≡ (scripted (out_in f P m) e).script)
    (l : ℕ) (el : l ≡ script_length f e y) (x : SizedAt) (B₁ : List ℕ) (e₁ : B₁ ≡ wrote B at (bytes_in (sized_in 8 f x))) where
  pub room_size : at + 8 + size_length l ≤ length B₁
  room_size = omega (arith, room_is f P m e at (length B) r y ey l el, wrote_long B B₁ at (bytes_in (sized_in 8 f x)) e₁)

  module _ (k : ℕ) (ek : k ≡ size_length l) (B₂ : List ℕ) (e₂ : B₂ ≡ wrote B₁ (at + 8) (shortest l)) where
    pub room_script : at + 8 + k + script_length f e y ≤ length B₂
    room_script =
        omega (arith, room_is f P m e at (length B) r y ey l el, wrote_long B B₁ at (bytes_in (sized_in 8 f x)) e₁, wrote_long B₁ B₂ (at + 8) (shortest l) e₂)

    pub output_is : sized_in 8 f x ≡ sized_to 8 (field 0x03 (pairs_in f P m)) → (B₃ : List ℕ) → B₃ ≡ wrote B₂ (at + 8 + k) (script_bytes (script_in f e y))
        → put (at + 8 + k + l) B₃ ≡ put_one B at (scripted (out_in f P m) e)
    unfolding put_one out_length put_output scripted out_in out_of
    output_is ex B₃ e₃ =
        let p : at + 8 + k + l ≡ at + (8 + (size_length l + l)) = omega (arith, ek) in
        let c : B₃ ≡ wrote (wrote (wrote B at (bytes_in (sized_in 8 f x))) (at + 8) (shortest l)) (at + 8 + size_length l) (script_bytes (script_in f e y))
        = e₃ ∙ rw (e₂, e₁, ek) in
        ap₂ put p c ∙ rw (length_is f P m e at (length B) r y ey l el, ex, ey)

pub ruleset output_puts = (room_8, to_script, to_end, room_size, room_script, output_is)

-- writing the outputs from number i on, from here, gives what writing all gives
pub length_output : (B : List ℕ) (at : ℕ) (a : Sized) (v : List ℕ) → length (put_output B at a v) ≡ length B
unfolding put_output
length_output B at a v = rw (length_wrote, length_wrote, length_wrote)

pub record Putting (f P M : List ℕ) (s : Psbt) (t : State) (T B₀ : List ℕ) (at : ℕ) (B : List ℕ) (i to : ℕ) : Type 0 where
  pub room : to + outs_length (from (out_now f P M s t T) i (s.outputs - i)) ≤ length B
  pub long : length B ≡ length B₀
  pub is : put_outputs B to (from (out_now f P M s t T) i (s.outputs - i)) ≡ put_outputs B₀ at (outs_now f P M s t T)

pub put_first : (f P M : List ℕ) (s : Psbt) (t : State) (T : List ℕ) (at : ℕ) (B : List ℕ) → OutputsRoom f P M s t T at (length B)
    → Putting f P M s t T B at B 0 at
unfolding outs_now
put_first f P M s t T at B k =
    let q = rest_all (out_now f P M s t T) s.outputs in
    record { room = omega (arith, k.room, ap outs_length q); long = refl; is = ap (put_outputs B at) q }

module _ (f P M : List ℕ) (s : Psbt) (t : State) (T B₀ : List ℕ) (at : ℕ) (B : List ℕ) (i to : ℕ) (k : Putting f P M s t T B₀ at B i to) where
  pub put_done : s.outputs ≤ i → put to B ≡ put_outputs B₀ at (outs_now f P M s t T)
  unfolding put_outputs
  put_done h = sym (ap (put_outputs B to) (rest_none (out_now f P M s t T) i s.outputs h)) ∙ k.is

  module _ (h : i < s.outputs) (m : MapEntry) (em : m ≡ map_at M (1 + s.inputs + i)) (e : List ℕ) (ee : e ≡ entry_at (set_so_far t T) i) where
    one : from (out_now f P M s t T) i (s.outputs - i) ≡ scripted (out_in f P m) e ∷ from (out_now f P M s t T) (i + 1) (s.outputs - (i + 1))
    one =
        rest_one (out_now f P M s t T) i s.outputs h
        ∙ ap (λ (o : Out). o ∷ from (out_now f P M s t T) (i + 1) (s.outputs - (i + 1))) (out_at_lem f P M s t T i m e em ee)

    one_room : to + (out_length (length (script_bytes (scripted (out_in f P m) e).script))
        + outs_length (from (out_now f P M s t T) (i + 1) (s.outputs - (i + 1)))) ≤ length B
    unfolding outs_length
    one_room = rw one at k.room

    pub put_room : Usable f P m → OutputRoom f P m e to (length B)
    put_room u = record { usable = u; room = omega (arith, one_room) }

    pub put_more : (r : ℕ) (B₁ : List ℕ) → put r B₁ ≡ put_one B to (scripted (out_in f P m) e) → Putting f P M s t T B₀ at B₁ (i + 1) r
    unfolding put_one put_outputs
    put_more r B₁ q =
        let a : r ≡ to + out_length (length (script_bytes (scripted (out_in f P m) e).script)) = cc in
        let b : B₁ ≡ put_output B to (scripted (out_in f P m) e).amount (script_bytes (scripted (out_in f P m) e).script) = cc in
        let l : length B₁ ≡ length B = ap length b ∙ length_output B to _ _ in
        record {
          room = omega (arith, one_room, l, a);
          long = l ∙ k.long;
          is = ap₂ (λ (c : List ℕ) (d : ℕ). put_outputs c d (from (out_now f P M s t T) (i + 1) (s.outputs - (i + 1)))) b a
              ∙ sym (ap (put_outputs B to) one) ∙ k.is;
        }

pub ruleset puttings = (put_first, put_done, put_room, put_more)
