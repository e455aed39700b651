-- Keys that rise from a key on rise from every lower one.
use mathlib.Core.Path.{◌≡◌}
use mathlib.Core.List.{List, [], ◌∷◌}
use Prim.Native.Nat.{ℕ}
use Rattle.format.specs.Keys.{order}
use Rattle.format.specs.Content.{Pair}
use Rattle.std.specs.declared.cmp.Ordering.TheVariants.{Less}
use Rattle.format.proofs.Keys.{order_trans}
use Rattle.claims_reading.specs.Fine.{Rises}

pub rises_from : (a b : List ℕ) (ps : List Pair) → order a b ≡ Less → Rises b ps → Rises a ps
rises_from a b [] o h = tt
rises_from a b (p ∷ ps) o h = (order_trans a b p.key o h.0, h.1)
