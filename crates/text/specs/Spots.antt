-- Text put into a lent buffer.
use Rattle.std.specs.Prelude.{ℕ, ◌+◌, List, [], ◌∷◌, ltb, length, set}
use Rattle.format.specs.Tests.{pick}

-- a buffer and the place behind what was put into it
pub data Spot : Type 0 where
  spot : ℕ → List ℕ → Spot

-- a byte put behind what is there; where there is no room, it is left out
unfoldable pub lay_byte : Spot → ℕ → Spot
lay_byte (spot at out) b = pick (ltb at (length out)) (spot (at + 1) (set out at b)) (spot at out)

-- text put behind what is there, as far as there is room
unfoldable pub lay : Spot → List ℕ → Spot
lay s [] = s
lay s (b ∷ bs) = lay (lay_byte s b) bs
