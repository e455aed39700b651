-- Compact sizes, and the value of a count field.
use Rattle.std.specs.Prelude.{ℕ, suc, List, [], ◌∷◌, length, take, ltb, leb, eqb, Ok, Err}
use Rattle.format.specs.Tests.{pick}
use Rattle.format.specs.Numbers.{le, bytes_of}
use Rattle.format.specs.declared.PsbtError.TheVariants.{UnexpectedEof, InvalidCompactSize}
use Rattle.format.specs.Answers.{spelt, Size}

-- a number of w bytes behind the first byte
unfoldable pub long : ℕ → List ℕ → Size
long w r = pick (leb w (length r)) (Ok (spelt (le (take w r)) (suc w))) (Err UnexpectedEof)

-- by the first byte: itself up to fc; else the next 2, 4 or 8 bytes, also where fewer would do
unfoldable pub size_by : ℕ → List ℕ → Size
size_by b r =
    pick (ltb b 0xfd) (Ok (spelt b 1))
    (pick (eqb b 0xfd) (long 2 r)
    (pick (eqb b 0xfe) (long 4 r) (long 8 r)))

-- the compact size at the front of some bytes: its value and how many bytes spell it
unfoldable pub size : List ℕ → Size
size [] = Err UnexpectedEof
size (b ∷ r) = size_by b r

-- the shortest spelling of a number
unfoldable pub shortest : ℕ → List ℕ
shortest n =
    pick (ltb n 0xfd) (n ∷ [])
    (pick (ltb n 0x1_0000) (0xfd ∷ bytes_of 2 n)
    (pick (ltb n 0x1_0000_0000) (0xfe ∷ bytes_of 4 n) (0xff ∷ bytes_of 8 n)))

-- a count field's value of m bytes is one compact size, whole. Bytes left over are refused before a failed read is; the first byte counts as read
unfoldable pub count_by_def : ℕ → Size → Size
count_by_def m (Ok r) = pick (eqb m r.used) (Ok r) (Err InvalidCompactSize)
count_by_def m (Err e) = pick (leb m 1) (Err e) (Err InvalidCompactSize)

-- the count that a count field's value says, or the refusal
unfoldable pub count : List ℕ → Size
count v = count_by_def (length v) (size v)
