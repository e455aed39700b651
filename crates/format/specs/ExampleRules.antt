-- Computed examples of the field rule of a pair: what is not allowed, count fields, sizes by the bytes.
use Rattle.std.specs.Prelude.{refl, List, [], ◌∷◌, replicate, Err}
use Rattle.format.specs.Rows.{Row, is, Hold}
use Rattle.format.specs.Unfolds.{lookups}
use Rattle.format.specs.Rules.{GLOBAL, INPUT, OUTPUT, and_then, rule}
use Rattle.format.specs.declared.PsbtError.TheVariants.{UnexpectedEof, InvalidCompactSize, BadValue, NotAllowed}
use Rattle.format.specs.Answers.{passed, Ruled}

-- a kind of map, a key, a value
unfoldable pub ruled : List (Row Ruled)
ruled =
    -- global 00 without key data is not allowed, whatever its value; with key data, and in other maps, it is kept
    is (rule GLOBAL (0x00 ∷ []) []) (Err NotAllowed)
    ∷ is (rule GLOBAL (0x00 ∷ []) (0x01 ∷ [])) (Err NotAllowed)
    ∷ is (rule GLOBAL (0x00 ∷ 0x00 ∷ []) []) passed
    ∷ is (rule INPUT (0x00 ∷ []) []) passed
    ∷ is (rule OUTPUT (0x00 ∷ []) []) passed
    -- global 04: a count, its leftover bytes before its failed read
    ∷ is (rule GLOBAL (0x04 ∷ []) (0x00 ∷ [])) passed
    ∷ is (rule GLOBAL (0x04 ∷ []) (0xfc ∷ [])) passed
    ∷ is (rule GLOBAL (0x04 ∷ []) (0xfd ∷ 0x01 ∷ 0x00 ∷ [])) passed
    ∷ is (rule GLOBAL (0x04 ∷ []) []) (Err UnexpectedEof)
    ∷ is (rule GLOBAL (0x04 ∷ []) (0xfd ∷ [])) (Err UnexpectedEof)
    ∷ is (rule GLOBAL (0x04 ∷ []) (0xfd ∷ 0x01 ∷ [])) (Err InvalidCompactSize)
    ∷ is (rule GLOBAL (0x04 ∷ []) (0x00 ∷ 0x00 ∷ [])) (Err InvalidCompactSize)
    ∷ is (rule GLOBAL (0x04 ∷ 0x00 ∷ []) []) passed
    ∷ is (rule GLOBAL (0x04 ∷ 0x00 ∷ []) (0x00 ∷ 0x00 ∷ [])) passed
    ∷ is (rule INPUT (0x04 ∷ []) []) passed
    ∷ is (rule INPUT (0x04 ∷ []) (0x00 ∷ 0x00 ∷ [])) passed
    ∷ is (rule OUTPUT (0x04 ∷ []) []) passed
    ∷ is (rule OUTPUT (0x04 ∷ []) (0x00 ∷ 0x00 ∷ [])) passed
    -- global 05: a count, its leftover bytes before its failed read
    ∷ is (rule GLOBAL (0x05 ∷ []) (0x00 ∷ [])) passed
    ∷ is (rule GLOBAL (0x05 ∷ []) (0xfc ∷ [])) passed
    ∷ is (rule GLOBAL (0x05 ∷ []) (0xfd ∷ 0x01 ∷ 0x00 ∷ [])) passed
    ∷ is (rule GLOBAL (0x05 ∷ []) []) (Err UnexpectedEof)
    ∷ is (rule GLOBAL (0x05 ∷ []) (0xfd ∷ [])) (Err UnexpectedEof)
    ∷ is (rule GLOBAL (0x05 ∷ []) (0xfd ∷ 0x01 ∷ [])) (Err InvalidCompactSize)
    ∷ is (rule GLOBAL (0x05 ∷ []) (0x00 ∷ 0x00 ∷ [])) (Err InvalidCompactSize)
    ∷ is (rule GLOBAL (0x05 ∷ 0x00 ∷ []) []) passed
    ∷ is (rule GLOBAL (0x05 ∷ 0x00 ∷ []) (0x00 ∷ 0x00 ∷ [])) passed
    ∷ is (rule INPUT (0x05 ∷ []) []) passed
    ∷ is (rule INPUT (0x05 ∷ []) (0x00 ∷ 0x00 ∷ [])) passed
    ∷ is (rule OUTPUT (0x05 ∷ []) []) passed
    ∷ is (rule OUTPUT (0x05 ∷ []) (0x00 ∷ 0x00 ∷ [])) passed
    -- other global types without key data: no count, no refusal
    ∷ is (rule GLOBAL (0x01 ∷ []) (0x00 ∷ 0x00 ∷ [])) passed
    ∷ is (rule GLOBAL (0x01 ∷ []) []) passed
    ∷ is (rule GLOBAL (0x09 ∷ []) (0x00 ∷ 0x00 ∷ [])) passed
    ∷ is (rule GLOBAL (0x09 ∷ []) []) passed
    ∷ is (rule GLOBAL (0xfc ∷ []) (0x00 ∷ 0x00 ∷ [])) passed
    ∷ is (rule GLOBAL (0xfc ∷ []) []) passed
    ∷ is (rule GLOBAL (0xff ∷ []) (0x00 ∷ 0x00 ∷ [])) passed
    ∷ is (rule GLOBAL (0xff ∷ []) []) passed
    -- sizes by the bytes: the type byte is no key data
    ∷ is (rule GLOBAL (0x02 ∷ []) (replicate 4 9)) passed
    ∷ is (rule GLOBAL (0x02 ∷ []) (replicate 5 9)) (Err BadValue)
    ∷ is (rule GLOBAL (0x02 ∷ 9 ∷ []) (replicate 5 9)) passed
    ∷ is (rule GLOBAL (0x07 ∷ replicate 33 9) (replicate 33 9)) passed
    ∷ is (rule GLOBAL (0x07 ∷ replicate 32 9) (replicate 33 9)) (Err BadValue)
    ∷ is (rule GLOBAL (0x07 ∷ replicate 34 9) (replicate 33 9)) (Err BadValue)
    ∷ is (rule GLOBAL (0x07 ∷ replicate 33 9) (replicate 32 9)) (Err BadValue)
    ∷ is (rule GLOBAL (0x07 ∷ []) (replicate 33 9)) (Err BadValue)
    ∷ is (rule INPUT (0x07 ∷ []) (replicate 33 9)) passed
    ∷ is (rule OUTPUT (0x07 ∷ []) (replicate 33 9)) passed
    ∷ is (rule INPUT (0x1f ∷ replicate 33 9) (replicate 8 9)) passed
    ∷ is (rule INPUT (0x1f ∷ replicate 33 9) (replicate 6 9)) (Err BadValue)
    ∷ is (rule INPUT (0x0e ∷ []) (replicate 32 9)) passed
    ∷ is (rule INPUT (0x0e ∷ []) (replicate 31 9)) (Err BadValue)
    ∷ is (rule OUTPUT (0x09 ∷ []) (replicate 66 9)) passed
    ∷ is (rule OUTPUT (0x09 ∷ 9 ∷ []) (replicate 66 9)) (Err BadValue)
    ∷ is (rule OUTPUT (0x03 ∷ []) (replicate 8 9)) passed
    ∷ is (rule OUTPUT (0x03 ∷ []) (replicate 4 9)) (Err BadValue)
    ∷ is (rule INPUT (0x03 ∷ []) (replicate 4 9)) passed
    ∷ is (rule INPUT (0x03 ∷ []) (replicate 8 9)) (Err BadValue)
    ∷ []

-- so pairs are ruled
pub pairs_ruled : Hold ruled
unfolding lookups ruled
pairs_ruled = refl

-- one rule and then another: the first breach decides
unfoldable pub thens : List (Row Ruled)
thens =
    is (and_then passed passed) passed
    ∷ is (and_then passed (Err BadValue)) (Err BadValue)
    ∷ is (and_then (Err NotAllowed) passed) (Err NotAllowed)
    ∷ is (and_then (Err NotAllowed) (Err BadValue)) (Err NotAllowed)
    ∷ []

-- so rules follow each other
pub rules_in_order : Hold thens
unfolding lookups thens
rules_in_order = refl
