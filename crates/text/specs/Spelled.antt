-- Bytes and numbers as text, in ASCII.
use Rattle.std.specs.Prelude.{ℕ, zero, suc, ◌+◌, ◌-◌, ◌/◌, ◌%◌, List, [], ◌∷◌, ◌++◌, ltb, ℤ, pos, negsuc}
use Prim.Native.Char.{code}
use Rattle.format.specs.Tests.{pick}

-- a digit below 16: `0` to `9`, then `a` to `f`
unfoldable pub digit : ℕ → ℕ
digit d = pick (ltb d 10) (code "0" + d) (code "a" - 10 + d)

-- a byte in two hex digits, the higher first
unfoldable pub hex_byte : ℕ → List ℕ
hex_byte b = digit (b / 16) ∷ digit (b % 16) ∷ []

-- bytes in hex, in their order
unfoldable pub hex : List ℕ → List ℕ
hex [] = []
hex (b ∷ bs) = hex_byte b ++ hex bs

-- a minus sign, and what stands for no bytes
abbrev pub dash : ℕ
dash = code "-"

-- bytes in hex, a dash where there are none
unfoldable pub hex_or_dash : List ℕ → List ℕ
hex_or_dash [] = dash ∷ []
hex_or_dash (b ∷ bs) = hex (b ∷ bs)

-- a number in decimal, in at most w digits
unfoldable pub decimal_in : ℕ → ℕ → List ℕ
decimal_in zero n = []
decimal_in (suc w) n = pick (ltb n 10) (digit n ∷ []) (decimal_in w (n / 10) ++ (digit (n % 10) ∷ []))

-- a number of 64 bits in decimal, with no zeros in front: it has at most 20 digits
unfoldable pub decimal : ℕ → List ℕ
decimal n = decimal_in 20 n

-- a number that may be negative
unfoldable pub signed_decimal : ℤ → List ℕ
signed_decimal (pos n) = decimal n
signed_decimal (negsuc n) = dash ∷ decimal (suc n)
