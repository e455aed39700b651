-- The script table by its entries: entry number i, and whether it is one that the setter writes.
use Rattle.std.specs.Prelude.{ℕ, ◌*◌, Bool, true, false, ◌&&◌, List, [], ◌∷◌, take, drop, replicate, eqb}
use Rattle.format.specs.Keys.{same}
use Rattle.format.specs.Scripts.{script_entry, taproot}

-- entry number i, or as much of it as there is
unfoldable pub entry_at : List ℕ → ℕ → List ℕ
entry_at T i = take script_entry (drop (i * script_entry) T)

-- an entry without a script
unfoldable pub blank : List ℕ → Bool
blank e = same e (replicate script_entry 0)

-- an entry with a script that is set
unfoldable pub filled : List ℕ → Bool
filled [] = false
filled (b ∷ s) = eqb b 1 && taproot s

-- an entry is one that the setter writes for an output with a script, or for one without
unfoldable pub fits_by : Bool → List ℕ → Bool
fits_by true e = blank e
fits_by false e = filled e
