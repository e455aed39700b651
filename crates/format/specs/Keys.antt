-- Keys: type, data, order.
use Rattle.std.specs.Ordering.{is_lt, is_eq}
use Rattle.std.specs.Prelude.{ℕ, Bool, List, [], ◌∷◌, ltb}
use Rattle.format.specs.Tests.{pick}
use Rattle.std.specs.declared.cmp.Ordering.{Ordering}
use Rattle.std.specs.declared.cmp.Ordering.TheVariants.{Less, Equal, Greater}

-- a key's type: its first byte
unfoldable pub type_of : List ℕ → ℕ
type_of [] = 0
type_of (t ∷ d) = t

-- a key's data: what follows the type
unfoldable pub data_of : List ℕ → List ℕ
data_of [] = []
data_of (t ∷ d) = d

-- the key of a type and data
unfoldable pub key_of : ℕ → List ℕ → List ℕ
key_of t d = t ∷ d

-- how a key stands to another: byte by byte, a prefix first
unfoldable pub order : List ℕ → List ℕ → Ordering
order [] [] = Equal
order [] (y ∷ b) = Less
order (x ∷ a) [] = Greater
order (x ∷ a) (y ∷ b) = pick (ltb x y) Less (pick (ltb y x) Greater (order a b))

-- the first comes before the second
unfoldable pub below : List ℕ → List ℕ → Bool
below a b = is_lt (order a b)

-- the two are one key
unfoldable pub same : List ℕ → List ℕ → Bool
same a b = is_eq (order a b)
