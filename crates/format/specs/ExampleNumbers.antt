-- Computed examples of numbers: little-endian bytes of every width, and 32 bits with a sign.
use Rattle.std.specs.Prelude.{ℕ, refl, List, [], ◌∷◌, ℤ, pos, negsuc}
use Rattle.format.specs.Rows.{Row, is, Hold}
use Rattle.format.specs.Numbers.{le, bytes_of, signed, unsigned}

-- the number that bytes spell: none is 0, the lowest byte stands first, zeros at the end add nothing
unfoldable pub spelled : List (Row ℕ)
spelled =
    is (le []) 0
    ∷ is (le (0x00 ∷ [])) 0
    ∷ is (le (0xff ∷ [])) 255
    ∷ is (le (0x01 ∷ 0x02 ∷ [])) 0x0201
    ∷ is (le (0x00 ∷ 0x01 ∷ [])) 256
    ∷ is (le (0x02 ∷ 0x00 ∷ 0x00 ∷ 0x00 ∷ [])) 2
    ∷ is (le (0x00 ∷ 0x00 ∷ 0x00 ∷ 0x02 ∷ [])) 0x0200_0000
    ∷ is (le (0x00 ∷ 0x65 ∷ 0xcd ∷ 0x1d ∷ [])) 500_000_000
    ∷ is (le (0xff ∷ 0xff ∷ 0xff ∷ 0xff ∷ [])) 0xffff_ffff
    ∷ is (le (0x08 ∷ 0x07 ∷ 0x06 ∷ 0x05 ∷ 0x04 ∷ 0x03 ∷ 0x02 ∷ 0x01 ∷ [])) 0x0102_0304_0506_0708
    ∷ is (le (0xff ∷ 0xff ∷ 0xff ∷ 0xff ∷ 0xff ∷ 0xff ∷ 0xff ∷ 0xff ∷ [])) 0xffff_ffff_ffff_ffff
    ∷ []

-- they spell these numbers
pub numbers_spelled : Hold spelled
unfolding spelled le
numbers_spelled = refl

-- the lowest bytes of a number: what is above them is left out
unfoldable pub lowest : List (Row (List ℕ))
lowest =
    is (bytes_of 0 0) []
    ∷ is (bytes_of 0 7) []
    ∷ is (bytes_of 1 255) (0xff ∷ [])
    ∷ is (bytes_of 1 0x100) (0x00 ∷ [])
    ∷ is (bytes_of 2 0x201) (0x01 ∷ 0x02 ∷ [])
    ∷ is (bytes_of 2 0x10000) (0x00 ∷ 0x00 ∷ [])
    ∷ is (bytes_of 4 0x1dcd6500) (0x00 ∷ 0x65 ∷ 0xcd ∷ 0x1d ∷ [])
    ∷ is (bytes_of 4 0xffffffff) (0xff ∷ 0xff ∷ 0xff ∷ 0xff ∷ [])
    ∷ is (bytes_of 4 0x100000000) (0x00 ∷ 0x00 ∷ 0x00 ∷ 0x00 ∷ [])
    ∷ is (bytes_of 8 0x102030405060708) (0x08 ∷ 0x07 ∷ 0x06 ∷ 0x05 ∷ 0x04 ∷ 0x03 ∷ 0x02 ∷ 0x01 ∷ [])
    ∷ is (bytes_of 8 0xffffffffffffffff) (0xff ∷ 0xff ∷ 0xff ∷ 0xff ∷ 0xff ∷ 0xff ∷ 0xff ∷ 0xff ∷ [])
    ∷ []

-- these are its lowest bytes
pub numbers_in_bytes : Hold lowest
unfolding lowest bytes_of
numbers_in_bytes = refl

-- 32 bits with a sign: the upper half is below 0
unfoldable pub with_sign : List (Row ℤ)
with_sign =
    is (signed 0) (pos 0)
    ∷ is (signed 2) (pos 2)
    ∷ is (signed 0x7fff_ffff) (pos 2_147_483_647)
    ∷ is (signed 0x8000_0000) (negsuc 2_147_483_647)
    ∷ is (signed 0x8000_0001) (negsuc 2_147_483_646)
    ∷ is (signed 0xffff_ffff) (negsuc 0)
    ∷ []

-- so they are read
pub numbers_signed : Hold with_sign
unfolding with_sign signed
numbers_signed = refl

-- and back
unfoldable pub without_sign : List (Row ℕ)
without_sign =
    is (unsigned (pos 0)) 0
    ∷ is (unsigned (pos 2)) 2
    ∷ is (unsigned (pos 2_147_483_647)) 0x7fff_ffff
    ∷ is (unsigned (negsuc 2_147_483_647)) 0x8000_0000
    ∷ is (unsigned (negsuc 2_147_483_646)) 0x8000_0001
    ∷ is (unsigned (negsuc 0)) 0xffff_ffff
    ∷ []

-- so they are written
pub numbers_unsigned : Hold without_sign
unfolding without_sign unsigned
numbers_unsigned = refl
