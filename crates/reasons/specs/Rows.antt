-- Lines of a text, each ended by a newline.
use Rattle.std.specs.Prelude.{◌≡◌, List, [], ◌∷◌, ℕ, zero, suc, ◌≤◌, eqb, length, take, drop}
use Rattle.format.specs.Tests.{pick}
use Rattle.text.specs.Say.{line_end}

-- the first line of a text, without its end
unfoldable pub front : List ℕ → List ℕ
front [] = []
front (b ∷ s) = pick (eqb b line_end) [] (b ∷ front s)

-- what stands behind the first line
unfoldable pub rest : List ℕ → List ℕ
rest [] = []
rest (b ∷ s) = pick (eqb b line_end) s (rest s)

-- what stands behind the first n lines
unfoldable pub behind : ℕ → List ℕ → List ℕ
behind zero s = s
behind (suc n) s = behind n (rest s)

-- line number n of a text, from 0
unfoldable pub line : ℕ → List ℕ → List ℕ
line n s = front (behind n s)

-- line number n begins at i
pub record Begins (s : List ℕ) (n i : ℕ) : Type 0 where
  pub in_text : i ≤ length s
  pub is : drop i s ≡ behind n s

-- the first line ends at i
pub record Ends (s : List ℕ) (i : ℕ) : Type 0 where
  pub in_text : i ≤ length s
  pub is : take i s ≡ front s
