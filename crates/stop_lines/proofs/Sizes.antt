-- How long the line of a place is.
use mathlib.Core.List.{List}
use Prim.Native.Nat.{ℕ, ◌≤◌}
use native.Mathlib.Omega.{arith}
use lib.Dec.{eqb}
use lib.ListN.{length, length-append}
use Rattle.format.specs.Tests.{pick}
use Rattle.format.proofs.Tests.{pick_by}
use Rattle.text.specs.Say.{say}
use Rattle.text.proofs.Sizes.{decimal_most}
use Rattle.stop_lines.specs.Stops.{after_pairs, stop_line}
use Rattle.stop_lines.specs.declared.Place.{Place}
use Rattle.stop_lines.specs.declared.Place.TheVariants.{Nowhere, Global, GlobalEnd, Input, Output, Behind}

after_most : (k : ℕ) → length (after_pairs k) ≤ 35
unfolding after_pairs
after_most k =
    let w : length (pick (eqb k 1) (say " pair\n") (say " pairs\n")) ≤ 7 =
    pick_by (λ (l : List ℕ). length l ≤ 7) (eqb k 1) _ _ (λ h. omega arith) (λ h. omega arith) in
    simp length-append (omega (arith, decimal_most k))

pub stop_most : (x : Place) → length (stop_line x) ≤ 73
unfolding stop_line
stop_most Nowhere = omega arith
stop_most (Global k) = simp length-append (omega (arith, after_most k))
stop_most GlobalEnd = omega arith
stop_most (Input i k) = simp length-append (omega (arith, decimal_most i, after_most k))
stop_most (Output i k) = simp length-append (omega (arith, decimal_most i, after_most k))
stop_most Behind = omega arith
