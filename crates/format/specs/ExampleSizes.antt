-- Computed examples of the rule of sizes: every row of its table, and the types that have none.
use Rattle.std.specs.Prelude.{ℕ, ◌+◌, ◌-◌, refl, List, [], ◌∷◌, Err}
use Rattle.format.specs.Rows.{Row, is, Hold}
use Rattle.format.specs.Unfolds.{lookups}
use Rattle.format.specs.Rules.{GLOBAL, INPUT, OUTPUT, sizes}
use Rattle.format.specs.declared.PsbtError.TheVariants.{BadValue}
use Rattle.format.specs.Answers.{passed, Ruled}

-- a breach
abbrev bad : Ruled
bad = Err BadValue

-- a type of a kind, n bytes of key data: values of m bytes, one less, one more, and none
abbrev around : ℕ → ℕ → ℕ → ℕ → List Ruled
around k t n m = sizes k t n m ∷ sizes k t n (m - 1) ∷ sizes k t n (m + 1) ∷ sizes k t n 0 ∷ []

-- only the first of them has the right length
abbrev right : List Ruled
right = passed ∷ bad ∷ bad ∷ bad ∷ []

-- none of them passes
abbrev wrong : List Ruled
wrong = bad ∷ bad ∷ bad ∷ bad ∷ []

-- all of them pass
abbrev free : List Ruled
free = passed ∷ passed ∷ passed ∷ passed ∷ []

-- sized types, their right length of key data, one byte less and more, and none: the sizes hold whatever the key data
unfoldable pub sized : List (Row (List Ruled))
sized =
    is (around GLOBAL 0x07 33 33) right
    ∷ is (around GLOBAL 0x07 34 33) wrong
    ∷ is (around GLOBAL 0x07 32 33) wrong
    ∷ is (around GLOBAL 0x07 0 33) wrong
    ∷ is (around GLOBAL 0x08 33 64) right
    ∷ is (around GLOBAL 0x08 34 64) wrong
    ∷ is (around GLOBAL 0x08 32 64) wrong
    ∷ is (around GLOBAL 0x08 0 64) wrong
    ∷ is (around INPUT 0x1d 33 33) right
    ∷ is (around INPUT 0x1d 34 33) wrong
    ∷ is (around INPUT 0x1d 32 33) wrong
    ∷ is (around INPUT 0x1d 0 33) wrong
    ∷ is (around INPUT 0x1e 33 64) right
    ∷ is (around INPUT 0x1e 34 64) wrong
    ∷ is (around INPUT 0x1e 32 64) wrong
    ∷ is (around INPUT 0x1e 0 64) wrong
    ∷ is (around INPUT 0x20 0 32) right
    ∷ is (around INPUT 0x20 1 32) wrong
    ∷ is (around INPUT 0x20 33 32) wrong
    ∷ is (around OUTPUT 0x09 0 66) right
    ∷ is (around OUTPUT 0x09 1 66) wrong
    ∷ is (around OUTPUT 0x09 33 66) wrong
    ∷ is (around OUTPUT 0x0a 0 4) right
    ∷ is (around OUTPUT 0x0a 1 4) wrong
    ∷ is (around OUTPUT 0x0a 33 4) wrong
    ∷ []

-- so they are
pub sizes_whatever_the_key_data : Hold sized
unfolding lookups sized
sizes_whatever_the_key_data = refl

-- lengths of a value under input 1f: at least 4, a multiple of 4; key data of 33 bytes
unfoldable pub origins : List (Row Ruled)
origins =
    is (sizes INPUT 0x1f 33 0) bad
    ∷ is (sizes INPUT 0x1f 33 1) bad
    ∷ is (sizes INPUT 0x1f 33 3) bad
    ∷ is (sizes INPUT 0x1f 33 4) passed
    ∷ is (sizes INPUT 0x1f 33 5) bad
    ∷ is (sizes INPUT 0x1f 33 6) bad
    ∷ is (sizes INPUT 0x1f 33 7) bad
    ∷ is (sizes INPUT 0x1f 33 8) passed
    ∷ is (sizes INPUT 0x1f 33 9) bad
    ∷ is (sizes INPUT 0x1f 33 12) passed
    ∷ is (sizes INPUT 0x1f 33 33) bad
    ∷ is (sizes INPUT 0x1f 33 64) passed
    ∷ is (sizes INPUT 0x1f 0 0) bad
    ∷ is (sizes INPUT 0x1f 0 4) bad
    ∷ is (sizes INPUT 0x1f 0 5) bad
    ∷ is (sizes INPUT 0x1f 32 0) bad
    ∷ is (sizes INPUT 0x1f 32 4) bad
    ∷ is (sizes INPUT 0x1f 32 5) bad
    ∷ is (sizes INPUT 0x1f 34 0) bad
    ∷ is (sizes INPUT 0x1f 34 4) bad
    ∷ is (sizes INPUT 0x1f 34 5) bad
    ∷ []

-- so it is with key origins
pub sizes_of_origins : Hold origins
unfolding lookups origins
sizes_of_origins = refl

-- types whose length is asked of a key without data; with data any length passes
unfoldable pub bare : List (Row (List Ruled))
bare =
    is (around GLOBAL 0x02 0 4) right
    ∷ is (around GLOBAL 0x02 1 4) free
    ∷ is (around GLOBAL 0x02 33 4) free
    ∷ is (around GLOBAL 0x03 0 4) right
    ∷ is (around GLOBAL 0x03 1 4) free
    ∷ is (around GLOBAL 0x03 33 4) free
    ∷ is (around GLOBAL 0xfb 0 4) right
    ∷ is (around GLOBAL 0xfb 1 4) free
    ∷ is (around GLOBAL 0xfb 33 4) free
    ∷ is (around GLOBAL 0x06 0 1) right
    ∷ is (around GLOBAL 0x06 1 1) free
    ∷ is (around GLOBAL 0x06 33 1) free
    ∷ is (around INPUT 0x03 0 4) right
    ∷ is (around INPUT 0x03 1 4) free
    ∷ is (around INPUT 0x03 33 4) free
    ∷ is (around INPUT 0x0f 0 4) right
    ∷ is (around INPUT 0x0f 1 4) free
    ∷ is (around INPUT 0x0f 33 4) free
    ∷ is (around INPUT 0x10 0 4) right
    ∷ is (around INPUT 0x10 1 4) free
    ∷ is (around INPUT 0x10 33 4) free
    ∷ is (around INPUT 0x11 0 4) right
    ∷ is (around INPUT 0x11 1 4) free
    ∷ is (around INPUT 0x11 33 4) free
    ∷ is (around INPUT 0x12 0 4) right
    ∷ is (around INPUT 0x12 1 4) free
    ∷ is (around INPUT 0x12 33 4) free
    ∷ is (around INPUT 0x0e 0 32) right
    ∷ is (around INPUT 0x0e 1 32) free
    ∷ is (around INPUT 0x0e 33 32) free
    ∷ is (around OUTPUT 0x03 0 8) right
    ∷ is (around OUTPUT 0x03 1 8) free
    ∷ is (around OUTPUT 0x03 33 8) free
    ∷ []

-- so it is
pub sizes_without_key_data : Hold bare
unfolding lookups bare
sizes_without_key_data = refl

-- a type of a kind: no value, a value of 5 bytes, both under key data
abbrev tried : ℕ → ℕ → List Ruled
tried k t = sizes k t 0 0 ∷ sizes k t 0 5 ∷ sizes k t 34 0 ∷ sizes k t 34 5 ∷ []

-- types with no row, among them those that have one in another kind of map
unfoldable pub rowless : List (Row (List Ruled))
rowless =
    -- global
    is (tried GLOBAL 0x00) free
    ∷ is (tried GLOBAL 0x01) free
    ∷ is (tried GLOBAL 0x04) free
    ∷ is (tried GLOBAL 0x05) free
    ∷ is (tried GLOBAL 0x09) free
    ∷ is (tried GLOBAL 0x0a) free
    ∷ is (tried GLOBAL 0x0b) free
    ∷ is (tried GLOBAL 0x0c) free
    ∷ is (tried GLOBAL 0x0d) free
    ∷ is (tried GLOBAL 0x0e) free
    ∷ is (tried GLOBAL 0x0f) free
    ∷ is (tried GLOBAL 0x10) free
    ∷ is (tried GLOBAL 0x11) free
    ∷ is (tried GLOBAL 0x12) free
    ∷ is (tried GLOBAL 0x13) free
    ∷ is (tried GLOBAL 0x14) free
    ∷ is (tried GLOBAL 0x15) free
    ∷ is (tried GLOBAL 0x16) free
    ∷ is (tried GLOBAL 0x17) free
    ∷ is (tried GLOBAL 0x18) free
    ∷ is (tried GLOBAL 0x19) free
    ∷ is (tried GLOBAL 0x1a) free
    ∷ is (tried GLOBAL 0x1b) free
    ∷ is (tried GLOBAL 0x1c) free
    ∷ is (tried GLOBAL 0x1d) free
    ∷ is (tried GLOBAL 0x1e) free
    ∷ is (tried GLOBAL 0x1f) free
    ∷ is (tried GLOBAL 0x20) free
    ∷ is (tried GLOBAL 0x21) free
    ∷ is (tried GLOBAL 0x22) free
    ∷ is (tried GLOBAL 0x34) free
    ∷ is (tried GLOBAL 0x35) free
    ∷ is (tried GLOBAL 0x36) free
    ∷ is (tried GLOBAL 0xfa) free
    ∷ is (tried GLOBAL 0xfc) free
    ∷ is (tried GLOBAL 0xfd) free
    ∷ is (tried GLOBAL 0xff) free
    -- input
    ∷ is (tried INPUT 0x00) free
    ∷ is (tried INPUT 0x01) free
    ∷ is (tried INPUT 0x02) free
    ∷ is (tried INPUT 0x04) free
    ∷ is (tried INPUT 0x05) free
    ∷ is (tried INPUT 0x06) free
    ∷ is (tried INPUT 0x07) free
    ∷ is (tried INPUT 0x08) free
    ∷ is (tried INPUT 0x09) free
    ∷ is (tried INPUT 0x0a) free
    ∷ is (tried INPUT 0x0b) free
    ∷ is (tried INPUT 0x0c) free
    ∷ is (tried INPUT 0x0d) free
    ∷ is (tried INPUT 0x13) free
    ∷ is (tried INPUT 0x14) free
    ∷ is (tried INPUT 0x15) free
    ∷ is (tried INPUT 0x16) free
    ∷ is (tried INPUT 0x17) free
    ∷ is (tried INPUT 0x18) free
    ∷ is (tried INPUT 0x19) free
    ∷ is (tried INPUT 0x1a) free
    ∷ is (tried INPUT 0x1b) free
    ∷ is (tried INPUT 0x1c) free
    ∷ is (tried INPUT 0x21) free
    ∷ is (tried INPUT 0x22) free
    ∷ is (tried INPUT 0x34) free
    ∷ is (tried INPUT 0x35) free
    ∷ is (tried INPUT 0x36) free
    ∷ is (tried INPUT 0xfa) free
    ∷ is (tried INPUT 0xfb) free
    ∷ is (tried INPUT 0xfc) free
    ∷ is (tried INPUT 0xfd) free
    ∷ is (tried INPUT 0xff) free
    -- output
    ∷ is (tried OUTPUT 0x00) free
    ∷ is (tried OUTPUT 0x01) free
    ∷ is (tried OUTPUT 0x02) free
    ∷ is (tried OUTPUT 0x04) free
    ∷ is (tried OUTPUT 0x05) free
    ∷ is (tried OUTPUT 0x06) free
    ∷ is (tried OUTPUT 0x07) free
    ∷ is (tried OUTPUT 0x08) free
    ∷ is (tried OUTPUT 0x0b) free
    ∷ is (tried OUTPUT 0x0c) free
    ∷ is (tried OUTPUT 0x0d) free
    ∷ is (tried OUTPUT 0x0e) free
    ∷ is (tried OUTPUT 0x0f) free
    ∷ is (tried OUTPUT 0x10) free
    ∷ is (tried OUTPUT 0x11) free
    ∷ is (tried OUTPUT 0x12) free
    ∷ is (tried OUTPUT 0x13) free
    ∷ is (tried OUTPUT 0x14) free
    ∷ is (tried OUTPUT 0x15) free
    ∷ is (tried OUTPUT 0x16) free
    ∷ is (tried OUTPUT 0x17) free
    ∷ is (tried OUTPUT 0x18) free
    ∷ is (tried OUTPUT 0x19) free
    ∷ is (tried OUTPUT 0x1a) free
    ∷ is (tried OUTPUT 0x1b) free
    ∷ is (tried OUTPUT 0x1c) free
    ∷ is (tried OUTPUT 0x1d) free
    ∷ is (tried OUTPUT 0x1e) free
    ∷ is (tried OUTPUT 0x1f) free
    ∷ is (tried OUTPUT 0x20) free
    ∷ is (tried OUTPUT 0x21) free
    ∷ is (tried OUTPUT 0x22) free
    ∷ is (tried OUTPUT 0x34) free
    ∷ is (tried OUTPUT 0x35) free
    ∷ is (tried OUTPUT 0x36) free
    ∷ is (tried OUTPUT 0xfa) free
    ∷ is (tried OUTPUT 0xfb) free
    ∷ is (tried OUTPUT 0xfc) free
    ∷ is (tried OUTPUT 0xfd) free
    ∷ is (tried OUTPUT 0xff) free
    ∷ []

-- they are free
pub sizes_of_other_types : Hold rowless
unfolding lookups rowless
sizes_of_other_types = refl
