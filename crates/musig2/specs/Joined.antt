-- Which parts a key may be put together of.
use Rattle.std.specs.Prelude.{ℕ, Bool, ◌&&◌, List, length, eqb}
use Rattle.format.specs.Fields.{leaf_fits}

-- an aggregate key has 33 bytes, and its leaf hash fits
unfoldable pub key_fits_def : List ℕ → List ℕ → Bool
key_fits_def aggregate leaf = eqb (length aggregate) 33 && leaf_fits leaf

-- a participant has 33 bytes too
unfoldable pub musig_fits : List ℕ → List ℕ → List ℕ → Bool
musig_fits participant aggregate leaf = eqb (length participant) 33 && key_fits_def aggregate leaf
