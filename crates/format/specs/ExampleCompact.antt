-- Computed examples of compact sizes, of count fields and of shortest spellings.
use Rattle.std.specs.Prelude.{ℕ, refl, List, [], ◌∷◌, Ok, Err}
use Rattle.format.specs.Rows.{Row, is, Hold}
use Rattle.format.specs.Unfolds.{lookups}
use Rattle.format.specs.Compact.{size, shortest, count}
use Rattle.format.specs.declared.PsbtError.TheVariants.{UnexpectedEof, InvalidCompactSize}
use Rattle.format.specs.Answers.{spelt, Size}

-- bytes, and the compact size at their front: its value and its length
unfoldable pub fronts : List (Row Size)
fronts =
    -- no byte; one byte up to fc, whatever follows
    is (size []) (Err UnexpectedEof)
    ∷ is (size (0x00 ∷ [])) (Ok (spelt 0 1))
    ∷ is (size (0x01 ∷ [])) (Ok (spelt 1 1))
    ∷ is (size (0xfc ∷ [])) (Ok (spelt 0xfc 1))
    ∷ is (size (0xfc ∷ 0x01 ∷ 0x02 ∷ [])) (Ok (spelt 0xfc 1))
    ∷ is (size (0x05 ∷ 0xff ∷ [])) (Ok (spelt 5 1))
    -- fd and two bytes
    ∷ is (size (0xfd ∷ [])) (Err UnexpectedEof)
    ∷ is (size (0xfd ∷ 0x01 ∷ [])) (Err UnexpectedEof)
    ∷ is (size (0xfd ∷ 0x01 ∷ 0x02 ∷ [])) (Ok (spelt 0x201 3))
    ∷ is (size (0xfd ∷ 0x01 ∷ 0x02 ∷ 0x03 ∷ [])) (Ok (spelt 0x201 3))
    -- fe and four bytes
    ∷ is (size (0xfe ∷ [])) (Err UnexpectedEof)
    ∷ is (size (0xfe ∷ 0x01 ∷ 0x02 ∷ [])) (Err UnexpectedEof)
    ∷ is (size (0xfe ∷ 0x01 ∷ 0x02 ∷ 0x03 ∷ [])) (Err UnexpectedEof)
    ∷ is (size (0xfe ∷ 0x01 ∷ 0x02 ∷ 0x03 ∷ 0x04 ∷ [])) (Ok (spelt 0x4030201 5))
    ∷ is (size (0xfe ∷ 0x01 ∷ 0x02 ∷ 0x03 ∷ 0x04 ∷ 0x05 ∷ [])) (Ok (spelt 0x4030201 5))
    -- ff and eight bytes
    ∷ is (size (0xff ∷ [])) (Err UnexpectedEof)
    ∷ is (size (0xff ∷ 0x01 ∷ 0x02 ∷ 0x03 ∷ 0x04 ∷ [])) (Err UnexpectedEof)
    ∷ is (size (0xff ∷ 0x01 ∷ 0x02 ∷ 0x03 ∷ 0x04 ∷ 0x05 ∷ 0x06 ∷ 0x07 ∷ [])) (Err UnexpectedEof)
    ∷ is (size (0xff ∷ 0x01 ∷ 0x02 ∷ 0x03 ∷ 0x04 ∷ 0x05 ∷ 0x06 ∷ 0x07 ∷ 0x08 ∷ [])) (Ok (spelt 0x807060504030201 9))
    ∷ is (size (0xff ∷ 0x01 ∷ 0x02 ∷ 0x03 ∷ 0x04 ∷ 0x05 ∷ 0x06 ∷ 0x07 ∷ 0x08 ∷ 0x09 ∷ [])) (Ok (spelt 0x807060504030201 9))
    -- longer forms than needed, and the greatest
    ∷ is (size (0xfd ∷ 0x00 ∷ 0x00 ∷ [])) (Ok (spelt 0 3))
    ∷ is (size (0xfd ∷ 0xfc ∷ 0x00 ∷ [])) (Ok (spelt 0xfc 3))
    ∷ is (size (0xfd ∷ 0xfd ∷ 0x00 ∷ [])) (Ok (spelt 0xfd 3))
    ∷ is (size (0xfd ∷ 0xff ∷ 0xff ∷ [])) (Ok (spelt 0xffff 3))
    ∷ is (size (0xfe ∷ 0x00 ∷ 0x00 ∷ 0x00 ∷ 0x00 ∷ [])) (Ok (spelt 0 5))
    ∷ is (size (0xfe ∷ 0xff ∷ 0xff ∷ 0x00 ∷ 0x00 ∷ [])) (Ok (spelt 0xffff 5))
    ∷ is (size (0xfe ∷ 0xff ∷ 0xff ∷ 0xff ∷ 0xff ∷ [])) (Ok (spelt 0xffffffff 5))
    ∷ is (size (0xff ∷ 0x00 ∷ 0x00 ∷ 0x00 ∷ 0x00 ∷ 0x00 ∷ 0x00 ∷ 0x00 ∷ 0x00 ∷ [])) (Ok (spelt 0 9))
    ∷ is (size (0xff ∷ 0xff ∷ 0xff ∷ 0xff ∷ 0xff ∷ 0xff ∷ 0xff ∷ 0xff ∷ 0xff ∷ [])) (Ok (spelt 0xffffffffffffffff 9))
    ∷ []

-- so they are read
pub sizes_read : Hold fronts
unfolding lookups fronts
sizes_read = refl

-- a count field's value, and the count or the refusal
unfoldable pub counts : List (Row Size)
counts =
    -- none: the read fails and nothing is left over
    is (count []) (Err UnexpectedEof)
    -- one byte, whole, and bytes left over
    ∷ is (count (0x00 ∷ [])) (Ok (spelt 0 1))
    ∷ is (count (0xfc ∷ [])) (Ok (spelt 0xfc 1))
    ∷ is (count (0x00 ∷ 0x00 ∷ [])) (Err InvalidCompactSize)
    ∷ is (count (0xfc ∷ 0xfc ∷ [])) (Err InvalidCompactSize)
    ∷ is (count (0x01 ∷ 0xfd ∷ 0x00 ∷ 0x00 ∷ [])) (Err InvalidCompactSize)
    -- fd: the first byte alone leaves nothing over; with one byte behind it that byte is left over, though the read failed
    ∷ is (count (0xfd ∷ [])) (Err UnexpectedEof)
    ∷ is (count (0xfd ∷ 0x01 ∷ [])) (Err InvalidCompactSize)
    ∷ is (count (0xfd ∷ 0x01 ∷ 0x02 ∷ [])) (Ok (spelt 0x201 3))
    ∷ is (count (0xfd ∷ 0x01 ∷ 0x02 ∷ 0x03 ∷ [])) (Err InvalidCompactSize)
    -- fe
    ∷ is (count (0xfe ∷ [])) (Err UnexpectedEof)
    ∷ is (count (0xfe ∷ 0x01 ∷ [])) (Err InvalidCompactSize)
    ∷ is (count (0xfe ∷ 0x01 ∷ 0x02 ∷ 0x03 ∷ [])) (Err InvalidCompactSize)
    ∷ is (count (0xfe ∷ 0x01 ∷ 0x02 ∷ 0x03 ∷ 0x04 ∷ [])) (Ok (spelt 0x4030201 5))
    ∷ is (count (0xfe ∷ 0x01 ∷ 0x02 ∷ 0x03 ∷ 0x04 ∷ 0x05 ∷ [])) (Err InvalidCompactSize)
    -- ff
    ∷ is (count (0xff ∷ [])) (Err UnexpectedEof)
    ∷ is (count (0xff ∷ 0x01 ∷ [])) (Err InvalidCompactSize)
    ∷ is (count (0xff ∷ 0x01 ∷ 0x02 ∷ 0x03 ∷ 0x04 ∷ 0x05 ∷ 0x06 ∷ 0x07 ∷ [])) (Err InvalidCompactSize)
    ∷ is (count (0xff ∷ 0x01 ∷ 0x02 ∷ 0x03 ∷ 0x04 ∷ 0x05 ∷ 0x06 ∷ 0x07 ∷ 0x08 ∷ [])) (Ok (spelt 0x807060504030201 9))
    ∷ is (count (0xff ∷ 0x01 ∷ 0x02 ∷ 0x03 ∷ 0x04 ∷ 0x05 ∷ 0x06 ∷ 0x07 ∷ 0x08 ∷ 0x09 ∷ [])) (Err InvalidCompactSize)
    -- longer forms than needed, whole
    ∷ is (count (0xfd ∷ 0x00 ∷ 0x00 ∷ [])) (Ok (spelt 0 3))
    ∷ is (count (0xfe ∷ 0x00 ∷ 0x00 ∷ 0x00 ∷ 0x00 ∷ [])) (Ok (spelt 0 5))
    ∷ is (count (0xff ∷ 0x00 ∷ 0x00 ∷ 0x00 ∷ 0x00 ∷ 0x00 ∷ 0x00 ∷ 0x00 ∷ 0x00 ∷ [])) (Ok (spelt 0 9))
    ∷ is (count (0xff ∷ 0xff ∷ 0xff ∷ 0xff ∷ 0xff ∷ 0xff ∷ 0xff ∷ 0xff ∷ 0xff ∷ [])) (Ok (spelt 0xffffffffffffffff 9))
    ∷ []

-- so they are counted
pub counts_read : Hold counts
unfolding lookups counts
counts_read = refl

-- numbers at the edges of each form
unfoldable pub shorts : List (Row (List ℕ))
shorts =
    is (shortest 0) (0x00 ∷ [])
    ∷ is (shortest 1) (0x01 ∷ [])
    ∷ is (shortest 0xfc) (0xfc ∷ [])
    ∷ is (shortest 0xfd) (0xfd ∷ 0xfd ∷ 0x00 ∷ [])
    ∷ is (shortest 0xff) (0xfd ∷ 0xff ∷ 0x00 ∷ [])
    ∷ is (shortest 0xffff) (0xfd ∷ 0xff ∷ 0xff ∷ [])
    ∷ is (shortest 0x10000) (0xfe ∷ 0x00 ∷ 0x00 ∷ 0x01 ∷ 0x00 ∷ [])
    ∷ is (shortest 0xffffffff) (0xfe ∷ 0xff ∷ 0xff ∷ 0xff ∷ 0xff ∷ [])
    ∷ is (shortest 0x100000000) (0xff ∷ 0x00 ∷ 0x00 ∷ 0x00 ∷ 0x00 ∷ 0x01 ∷ 0x00 ∷ 0x00 ∷ 0x00 ∷ [])
    ∷ is (shortest 0xffffffffffffffff) (0xff ∷ 0xff ∷ 0xff ∷ 0xff ∷ 0xff ∷ 0xff ∷ 0xff ∷ 0xff ∷ 0xff ∷ [])
    ∷ []

-- they take the fewest bytes
pub shortest_spellings : Hold shorts
unfolding lookups shorts
shortest_spellings = refl
