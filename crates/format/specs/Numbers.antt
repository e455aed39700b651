-- Little-endian numbers, every width at once.
use Rattle.std.specs.Prelude.{ℕ, zero, suc, ◌+◌, ◌*◌, ◌/◌, ◌%◌, List, [], ◌∷◌, ℤ}
use Rattle.std.proofs.Common.{to_z, of_z}
use Rattle.std.specs.Int.{w32}

-- the number that bytes spell, the lowest byte first
unfoldable pub le : List ℕ → ℕ
le [] = 0
le (b ∷ bs) = b + 256 * le bs

-- the w lowest bytes of a number, the lowest first
unfoldable pub bytes_of : ℕ → ℕ → List ℕ
bytes_of zero n = []
bytes_of (suc w) n = n % 256 ∷ bytes_of w (n / 256)

-- 32 bits read as a signed number, and a signed number's 32 bits
unfoldable pub signed : ℕ → ℤ
signed n = to_z w32 n

-- a signed number's 32 bits
unfoldable pub unsigned : ℤ → ℕ
unsigned z = of_z w32 z
