-- Bytes written into a lent buffer.
use Rattle.std.specs.Prelude.{ℕ, List, length}
use Rattle.std.proofs.lemmas.List.Edits.{sets}
use Rattle.format.specs.Compact.{shortest}

-- a buffer with xs stored from i on; what would stand past its end is lost
unfoldable pub wrote : List ℕ → ℕ → List ℕ → List ℕ
wrote l i xs = sets l i xs

-- how many bytes the shortest spelling of a number takes
unfoldable pub size_length : ℕ → ℕ
size_length n = length (shortest n)
