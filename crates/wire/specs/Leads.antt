-- The number at the front of some bytes.
use Rattle.std.specs.Prelude.{ℕ, ◌<◌, ◌≤◌, List, length, take, get_or, leb, eqb, Ok, Err}
use Rattle.format.specs.Tests.{pick}
use Rattle.format.specs.Numbers.{le}
use Rattle.format.specs.declared.PsbtError.TheVariants.{UnexpectedEof}
use Rattle.format.specs.Answers.{spelt, Size}

-- the number that the first w bytes spell, or all where there are fewer
unfoldable pub lead : ℕ → List ℕ → ℕ
lead w s = le (take w s)

-- a number v that u of n bytes spell
unfoldable pub spelled : ℕ → ℕ → ℕ → Size
spelled n u v = pick (leb u n) (Ok (spelt v u)) (Err UnexpectedEof)

-- how many bytes follow the first byte b of a compact size that has more than one
unfoldable pub width : ℕ → ℕ
width b = pick (eqb b 0xfd) 2 (pick (eqb b 0xfe) 4 8)

-- bytes that begin with a compact size of more than one byte
pub record Long (s : List ℕ) : Type 0 where
  pub some : 0 < length s
  pub above : 0xfd ≤ get_or s 0 0
