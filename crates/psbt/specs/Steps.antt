-- What stands at a place of the file, with places counted from its front.
use Rattle.std.specs.Prelude.{ℕ, ◌+◌, ◌≤◌, List, Ok, Err}
use Rattle.format.specs.Reading.{limit}
use Rattle.parsed_map.specs.Fronts.{item_of, ItemRead}
use Rattle.parsed_map.specs.declared.Item.TheVariants as I
use Rattle.parsed_map.specs.declared.Item.TheVariants.{Over, One}

-- n bytes from a place on are within the limit
pub record Places (n at : ℕ) : Type 0 where
  pub within : at + n ≤ limit

-- a file that begins with the magic and is not too long
pub record InLimit (n : ℕ) : Type 0 where
  pub magic : 5 ≤ n
  pub short : n ≤ limit

-- by the item at the front of what begins at `at`
unfoldable pub step_by : ℕ → ItemRead → ItemRead
step_by at (Err e) = Err e
step_by at (Ok (I.Over u)) = Ok (Over (at + u))
step_by at (Ok (I.One e)) = Ok (One (record { key = at + e.key; klen = e.klen; value = at + e.value; vlen = e.vlen }))

-- in a map of kind k whose last key is `last`
unfoldable pub step_at : List ℕ → List ℕ → ℕ → ℕ → ItemRead
step_at s last at k = step_by at (item_of k last s)
