-- The tests on one entry of a listing.
use Rattle.std.specs.Prelude.{ℕ, Bool, List, [], eqb}
use Rattle.format.specs.Keys.{type_of, key_of, below}
use Rattle.format.specs.Entries.{key_in_def}
use Rattle.format.specs.declared.PairEntry.{PairEntry}

-- an entry's key stands before the bare key of a type
unfoldable pub is_before : List ℕ → ℕ → PairEntry → Bool
is_before f t e = below (key_in_def f e) (key_of t [])

-- an entry's key has the type
unfoldable pub is_listed : List ℕ → ℕ → PairEntry → Bool
is_listed f t e = eqb (type_of (key_in_def f e)) t
