-- What reading a witness UTXO asks of its place.
use Rattle.std.specs.Prelude.{ℕ, ◌+◌, ◌^◌, ◌<◌, List, length}

-- the end of a value's bytes is a place
pub record Placed (s : ℕ) (v : List ℕ) : Type 0 where
  pub fits : s + length v < 2 ^ 64
