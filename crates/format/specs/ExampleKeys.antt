-- Computed examples of keys: type, data, order, and which types are listed.
use Rattle.std.specs.Prelude.{ℕ, refl, Bool, true, false, List, [], ◌∷◌}
use Rattle.format.specs.Rows.{Row, is, Hold}
use Rattle.format.specs.Unfolds.{lookups}
use Rattle.format.specs.Keys.{type_of, data_of, key_of, order, below, same}
use Rattle.format.specs.Rules.{GLOBAL, INPUT, OUTPUT, listed}
use Rattle.std.specs.declared.cmp.Ordering.{Ordering}
use Rattle.std.specs.declared.cmp.Ordering.TheVariants.{Less, Equal, Greater}

-- a key's type first, then its data; and both together again
unfoldable pub taken : List (Row (List ℕ))
taken =
    is (type_of (0x1b ∷ 2 ∷ 3 ∷ []) ∷ data_of (0x1b ∷ 2 ∷ 3 ∷ [])) (0x1b ∷ 2 ∷ 3 ∷ [])
    ∷ is (data_of (0x1b ∷ 2 ∷ 3 ∷ [])) (2 ∷ 3 ∷ [])
    ∷ is (data_of (0x04 ∷ [])) []
    ∷ is (type_of (0xfb ∷ []) ∷ []) (0xfb ∷ [])
    -- an empty key, which no map has
    ∷ is (type_of [] ∷ data_of []) (0 ∷ [])
    ∷ is (key_of 0x04 []) (0x04 ∷ [])
    ∷ is (key_of 0x1d (2 ∷ 3 ∷ [])) (0x1d ∷ 2 ∷ 3 ∷ [])
    ∷ []

-- so keys are taken apart
pub keys_apart : Hold taken
unfolding lookups taken
keys_apart = refl

-- how the first key stands to the second
unfoldable pub orders : List (Row Ordering)
orders =
    -- nothing, and a prefix first
    is (order [] []) Equal
    ∷ is (order [] (0x00 ∷ [])) Less
    ∷ is (order (0x00 ∷ []) []) Greater
    ∷ is (order (0x04 ∷ []) (0x04 ∷ 0x00 ∷ [])) Less
    ∷ is (order (0x04 ∷ 0x00 ∷ []) (0x04 ∷ [])) Greater
    -- the first byte that differs decides, whatever follows
    ∷ is (order (0x04 ∷ []) (0x05 ∷ [])) Less
    ∷ is (order (0x05 ∷ []) (0x04 ∷ [])) Greater
    ∷ is (order (0x04 ∷ 0x09 ∷ 0x09 ∷ []) (0x05 ∷ [])) Less
    ∷ is (order (0x05 ∷ []) (0x04 ∷ 0x09 ∷ 0x09 ∷ [])) Greater
    ∷ is (order (0x04 ∷ 0xff ∷ []) (0x05 ∷ 0x00 ∷ [])) Less
    ∷ is (order (0x00 ∷ 0xff ∷ []) (0xff ∷ 0x00 ∷ [])) Less
    ∷ is (order (0x01 ∷ 0x02 ∷ 0x03 ∷ []) (0x01 ∷ 0x02 ∷ 0x04 ∷ [])) Less
    ∷ is (order (0x01 ∷ 0x03 ∷ 0x00 ∷ []) (0x01 ∷ 0x02 ∷ 0x09 ∷ [])) Greater
    ∷ is (order (0x01 ∷ 0x02 ∷ 0x04 ∷ []) (0x01 ∷ 0x02 ∷ 0x03 ∷ [])) Greater
    -- equal
    ∷ is (order (0x07 ∷ []) (0x07 ∷ [])) Equal
    ∷ is (order (0x01 ∷ 0x02 ∷ 0x03 ∷ []) (0x01 ∷ 0x02 ∷ 0x03 ∷ [])) Equal
    ∷ is (order (0x00 ∷ []) (0x00 ∷ [])) Equal
    ∷ is (order (0xff ∷ 0x00 ∷ []) (0xff ∷ 0x00 ∷ [])) Equal
    ∷ []

-- so keys are ordered
pub keys_in_order : Hold orders
unfolding lookups orders
keys_in_order = refl

-- the first comes before the second; the two are one
unfoldable pub befores : List (Row Bool)
befores =
    is (below (4 ∷ []) (5 ∷ [])) true
    ∷ is (below (4 ∷ []) (4 ∷ [])) false
    ∷ is (below (5 ∷ []) (4 ∷ [])) false
    ∷ is (same (4 ∷ []) (5 ∷ [])) false
    ∷ is (same (4 ∷ []) (4 ∷ [])) true
    ∷ is (same (5 ∷ []) (4 ∷ [])) false
    ∷ is (same (4 ∷ []) (4 ∷ 0 ∷ [])) false
    ∷ is (below [] (0 ∷ [])) true
    ∷ is (same [] []) true
    ∷ []

-- so it is said
pub keys_before : Hold befores
unfolding lookups befores
keys_before = refl

-- the first and last type of each span, and those beside them
unfoldable pub edges : List (Row Bool)
edges =
    -- global: 00 to 08, fb, fc
    is (listed GLOBAL (0x00 ∷ [])) true
    ∷ is (listed GLOBAL (0x01 ∷ [])) true
    ∷ is (listed GLOBAL (0x07 ∷ [])) true
    ∷ is (listed GLOBAL (0x08 ∷ [])) true
    ∷ is (listed GLOBAL (0x09 ∷ [])) false
    ∷ is (listed GLOBAL (0xfa ∷ [])) false
    ∷ is (listed GLOBAL (0xfb ∷ [])) true
    ∷ is (listed GLOBAL (0xfc ∷ [])) true
    ∷ is (listed GLOBAL (0xfd ∷ [])) false
    ∷ is (listed GLOBAL (0xff ∷ [])) false
    -- input: 00 to 18, 1a to 20, fc
    ∷ is (listed INPUT (0x00 ∷ [])) true
    ∷ is (listed INPUT (0x01 ∷ [])) true
    ∷ is (listed INPUT (0x17 ∷ [])) true
    ∷ is (listed INPUT (0x18 ∷ [])) true
    ∷ is (listed INPUT (0x19 ∷ [])) false
    ∷ is (listed INPUT (0x1a ∷ [])) true
    ∷ is (listed INPUT (0x1b ∷ [])) true
    ∷ is (listed INPUT (0x1f ∷ [])) true
    ∷ is (listed INPUT (0x20 ∷ [])) true
    ∷ is (listed INPUT (0x21 ∷ [])) false
    ∷ is (listed INPUT (0x35 ∷ [])) false
    ∷ is (listed INPUT (0xfb ∷ [])) false
    ∷ is (listed INPUT (0xfc ∷ [])) true
    ∷ is (listed INPUT (0xfd ∷ [])) false
    ∷ is (listed INPUT (0xff ∷ [])) false
    -- output: 00 to 0a, 35, fc
    ∷ is (listed OUTPUT (0x00 ∷ [])) true
    ∷ is (listed OUTPUT (0x01 ∷ [])) true
    ∷ is (listed OUTPUT (0x09 ∷ [])) true
    ∷ is (listed OUTPUT (0x0a ∷ [])) true
    ∷ is (listed OUTPUT (0x0b ∷ [])) false
    ∷ is (listed OUTPUT (0x1a ∷ [])) false
    ∷ is (listed OUTPUT (0x34 ∷ [])) false
    ∷ is (listed OUTPUT (0x35 ∷ [])) true
    ∷ is (listed OUTPUT (0x36 ∷ [])) false
    ∷ is (listed OUTPUT (0xfb ∷ [])) false
    ∷ is (listed OUTPUT (0xfc ∷ [])) true
    ∷ is (listed OUTPUT (0xfd ∷ [])) false
    ∷ is (listed OUTPUT (0xff ∷ [])) false
    -- key data says nothing about it
    ∷ is (listed GLOBAL (0x08 ∷ 0x09 ∷ [])) true
    ∷ is (listed GLOBAL (0x09 ∷ 0x08 ∷ [])) false
    ∷ is (listed INPUT (0x19 ∷ 0x18 ∷ [])) false
    ∷ is (listed OUTPUT (0x35 ∷ 0x36 ∷ [])) true
    ∷ []

-- these are listed, and these are not
pub types_listed : Hold edges
unfolding lookups edges
types_listed = refl
