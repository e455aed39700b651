-- Texts that the definitions give, computed.
use Rattle.std.specs.Prelude.{◌≡◌, refl, [], ◌∷◌, map, pos, negsuc}
use Rattle.text.specs.Spots.{spot, lay_byte, lay}
use Rattle.text.specs.Say.{say}
use Rattle.text.specs.Spelled.{digit, hex_byte, hex, hex_or_dash, decimal_in, decimal, signed_decimal}

-- the digits
pub digit_example : map digit (0 ∷ 1 ∷ 2 ∷ 3 ∷ 4 ∷ 5 ∷ 6 ∷ 7 ∷ 8 ∷ 9 ∷ 10 ∷ 11 ∷ 12 ∷ 13 ∷ 14 ∷ 15 ∷ []) ≡ say "0123456789abcdef"
unfolding digit
digit_example = refl

-- bytes and no byte
pub hex_example : map hex_or_dash ((0x00 ∷ 0x9a ∷ 0xf0 ∷ []) ∷ [] ∷ []) ≡ say "009af0" ∷ say "-" ∷ []
unfolding digit hex_byte hex hex_or_dash
hex_example = refl

-- numbers: the least, one of two digits, the greatest
pub decimal_example : map decimal (0 ∷ 10 ∷ 0xffff_ffff_ffff_ffff ∷ [])
    ≡ say "0" ∷ say "10" ∷ say "18446744073709551615" ∷ []
unfolding digit decimal_in decimal
decimal_example = refl

-- numbers that may be negative
pub signed_example : map signed_decimal (pos 2 ∷ negsuc 0 ∷ negsuc 2147483647 ∷ [])
    ≡ say "2" ∷ say "-1" ∷ say "-2147483648" ∷ []
unfolding digit decimal_in decimal signed_decimal
signed_example = refl

-- a text of two bytes at 1: with room for both, for one, and past the end
pub lay_example : map (λ s. lay s (7 ∷ 8 ∷ [])) (spot 1 (0 ∷ 0 ∷ 0 ∷ 0 ∷ []) ∷ spot 1 (0 ∷ 0 ∷ []) ∷ spot 2 (0 ∷ []) ∷ [])
    ≡ spot 3 (0 ∷ 7 ∷ 8 ∷ 0 ∷ []) ∷ spot 2 (0 ∷ 7 ∷ []) ∷ spot 2 (0 ∷ []) ∷ []
unfolding lay_byte lay
lay_example = refl
