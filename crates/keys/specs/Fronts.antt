-- Two keys from a place on.
use Rattle.std.specs.Prelude.{ℕ, ◌≤◌, ◌≡◌, List, length, take, drop}
use Rattle.format.specs.Keys.{order}
use Rattle.format.specs.Numbers.{le}

-- the number that the w bytes from i on spell
unfoldable pub block_at : ℕ → List ℕ → ℕ → ℕ
block_at w s i = le (take w (drop i s))

-- the order of what two keys have from i on is theirs, and i stays in the first
pub record Front (a b : List ℕ) (i : ℕ) : Type 0 where
  pub on : order (drop i a) (drop i b) ≡ order a b
  pub in_a : i ≤ length a
