-- The tests of a row of the table of sized types, and of the types that it has.
use Rattle.std.specs.Prelude.{ℕ, Bool, true, false, not, ◌&&◌, List, [], ◌∷◌, eqb}
use Rattle.format.specs.Tests.{pick}
use Rattle.format.specs.Rules.{value_fits}
use Rattle.format.specs.declared.SizedType.{SizedType}

-- a bare row has nothing to say of a key with data
unfoldable pub is_kept : SizedType → ℕ → Bool
is_kept r n = r.bare && not (eqb n 0)

-- n bytes of key data and a value of m bytes are what a row asks
unfoldable pub both_fit : SizedType → ℕ → ℕ → Bool
both_fit r n m = eqb n r.dlen && value_fits r.vlen m

-- some row is about type t, in maps of whatever kind
unfoldable pub has_type : List SizedType → ℕ → Bool
has_type [] t = false
has_type (r ∷ rs) t = pick (eqb r.tag t) true (has_type rs t)
