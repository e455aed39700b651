-- Input number i of an accepted file is its content's input i, output number i its output i; beyond them 14.
use mathlib.Core.Path.{◌≡◌, refl, ◌∙◌, ap}
use mathlib.Core.List.{List, [], ◌∷◌, ◌++◌}
use Prim.Native.Nat.{ℕ, zero, suc, ◌+◌, ◌≤◌, ◌<◌}
use native.Mathlib.Omega.{arith}
use borrow.Author.Tests.{ltb-true, ltb-false}
use lib.Dec.{ltb}
use lib.ListN.{length}
use Rattle.format.specs.Content.{Map, Content, maps_of}
use Rattle.format.specs.Tables.{Held, held, held_input, held_output, hides, view_of}
use Rattle.format.specs.declared.PsbtError.TheVariants.{OutOfRange}
use Rattle.format.specs.declared.Psbt.{Psbt}
use Rattle.format.proofs.Tests.{pick_by}
use Rattle.claims_reading.specs.Shown.{view_by}

-- maps in front of others, and behind them
pub view_front : (i : ℕ) (ms ns : List Map) → i < length ms → view_by i (ms ++ ns) ≡ view_by i ms
unfolding view_by
view_front i [] ns h = absurd (omega arith)
view_front zero (m ∷ ms) ns h = refl
view_front (suc i) (m ∷ ms) ns h = view_front i ms ns (omega arith)

view_behind : (i : ℕ) (ms ns : List Map) → view_by (length ms + i) (ms ++ ns) ≡ view_by i ns
unfolding view_by
view_behind i [] ns = let n : 0 + i ≡ i = omega arith in rw n
view_behind i (m ∷ ms) ns = let n : length (m ∷ ms) + i ≡ suc (length ms + i) = omega arith in rw n (view_behind i ms ns)

view_past : (i : ℕ) (ms : List Map) → length ms ≤ i → hides OutOfRange ≡ view_by i ms
unfolding view_by
view_past i [] h = refl
view_past zero (m ∷ ms) h = absurd (omega arith)
view_past (suc i) (m ∷ ms) h = view_past i ms (omega arith)

-- tables that show the content's maps, and a report of as many inputs and outputs
module _ (f P M : List ℕ) (s : Psbt) (c : Content) (shown : (n : ℕ) → view_of f (held f P M s n) ≡ view_by n (maps_of c))
    (ins# : s.inputs ≡ length c.ins) (outs# : s.outputs ≡ length c.outs) where
  pub input_shows : (i : ℕ) → view_of f (held_input f P M s i) ≡ view_by i c.ins
  unfolding held_input view_of maps_of view_by
  input_shows i =
      let n : 1 + i ≡ suc i = omega arith in
      pick_by (λ (h : Held). view_of f h ≡ view_by i c.ins) (ltb i s.inputs) _ _
      (λ q. shown (1 + i) ∙ ap (λ (k : ℕ). view_by k (maps_of c)) n ∙ view_front i c.ins c.outs (inside (ltb-true i _ q)))
      (λ q. view_past i c.ins (outside (ltb-false i _ q)))
    where
      inside : i < s.inputs → i < length c.ins
      inside h = omega (arith, ins#)

      outside : s.inputs ≤ i → length c.ins ≤ i
      outside h = omega (arith, ins#)

  pub output_shows : (i : ℕ) → view_of f (held_output f P M s i) ≡ view_by i c.outs
  unfolding held_output view_of maps_of view_by
  output_shows i =
      let n : 1 + (s.inputs + i) ≡ suc (length c.ins + i) = omega (arith, ins#) in
      pick_by (λ (h : Held). view_of f h ≡ view_by i c.outs) (ltb i s.outputs) _ _
      (λ q. shown (1 + (s.inputs + i)) ∙ ap (λ (k : ℕ). view_by k (maps_of c)) n ∙ view_behind i c.ins c.outs)
      (λ q. view_past i c.outs (outside (ltb-false i _ q)))
    where
      outside : s.outputs ≤ i → length c.outs ≤ i
      outside h = omega (arith, outs#)
