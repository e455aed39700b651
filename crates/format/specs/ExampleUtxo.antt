-- Computed examples of the witness UTXO: amount, where its script begins, how long it is.
use Rattle.std.specs.Prelude.{ℕ, refl, List, [], ◌∷◌, replicate, Ok, Err, Some, None}
use Rattle.format.specs.Rows.{Row, is, Hold}
use Rattle.format.specs.Unfolds.{lookups}
use Rattle.format.specs.Counting.{counting, input_pair, nothing, refused}
use Rattle.format.specs.Fields.{utxo_of, get_witness_utxo, utxo_part}
use Rattle.format.specs.Told.{Told, told, nat, told_utxo}
use Rattle.format.specs.declared.PsbtError.TheVariants.{BadValue}
use Rattle.format.specs.Answers.{utxo_with}

-- told of it: amount, script start, script length
abbrev utxo : ℕ → ℕ → ℕ → Told
utxo a s n = told 0 (nat a ∷ nat s ∷ nat n ∷ [])

-- values that begin at byte 20
unfoldable pub values : List (Row Told)
values =
    -- scripts of no byte, one, two, fc
    is (told_utxo (utxo_of 20 (0xe8 ∷ 3 ∷ 0 ∷ 0 ∷ 0 ∷ 0 ∷ 0 ∷ 0 ∷ 0 ∷ []))) (utxo 1000 29 0)
    ∷ is (told_utxo (utxo_of 20 (0xe8 ∷ 3 ∷ 0 ∷ 0 ∷ 0 ∷ 0 ∷ 0 ∷ 0 ∷ 1 ∷ 0x51 ∷ []))) (utxo 1000 29 1)
    ∷ is (told_utxo (utxo_of 20 (0xe8 ∷ 3 ∷ 0 ∷ 0 ∷ 0 ∷ 0 ∷ 0 ∷ 0 ∷ 2 ∷ 0x51 ∷ 0x20 ∷ []))) (utxo 1000 29 2)
    ∷ is (told_utxo (utxo_of 20 (0xe8 ∷ 3 ∷ 0 ∷ 0 ∷ 0 ∷ 0 ∷ 0 ∷ 0 ∷ 0xfc ∷ replicate 252 7))) (utxo 1000 29 252)
    ∷ is (told_utxo (utxo_of 20 (0xff ∷ 0xff ∷ 0xff ∷ 0xff ∷ 0xff ∷ 0xff ∷ 0xff ∷ 0xff ∷ 0 ∷ []))) (utxo 0xffff_ffff_ffff_ffff 29 0)
    ∷ is (told_utxo (utxo_of 20 (1 ∷ 2 ∷ 3 ∷ 4 ∷ 5 ∷ 6 ∷ 7 ∷ 8 ∷ 1 ∷ 9 ∷ []))) (utxo 0x0807_0605_0403_0201 29 1)
    -- a value under 9 bytes
    ∷ is (told_utxo (utxo_of 20 [])) (refused 7)
    ∷ is (told_utxo (utxo_of 20 (1 ∷ 2 ∷ []))) (refused 7)
    ∷ is (told_utxo (utxo_of 20 (0xe8 ∷ 3 ∷ 0 ∷ 0 ∷ 0 ∷ 0 ∷ 0 ∷ 0 ∷ []))) (refused 7)
    -- a length byte above fc, with as many bytes behind it, or with a longer form
    ∷ is (told_utxo (utxo_of 20 (0xe8 ∷ 3 ∷ 0 ∷ 0 ∷ 0 ∷ 0 ∷ 0 ∷ 0 ∷ 0xfd ∷ replicate 253 7))) (refused 7)
    ∷ is (told_utxo (utxo_of 20 (0xe8 ∷ 3 ∷ 0 ∷ 0 ∷ 0 ∷ 0 ∷ 0 ∷ 0 ∷ 0xfe ∷ replicate 254 7))) (refused 7)
    ∷ is (told_utxo (utxo_of 20 (0xe8 ∷ 3 ∷ 0 ∷ 0 ∷ 0 ∷ 0 ∷ 0 ∷ 0 ∷ 0xff ∷ replicate 255 7))) (refused 7)
    ∷ is (told_utxo (utxo_of 20 (0xe8 ∷ 3 ∷ 0 ∷ 0 ∷ 0 ∷ 0 ∷ 0 ∷ 0 ∷ 0xfd ∷ 1 ∷ 0 ∷ 0x51 ∷ []))) (refused 7)
    -- script bytes missing, or left over
    ∷ is (told_utxo (utxo_of 20 (0xe8 ∷ 3 ∷ 0 ∷ 0 ∷ 0 ∷ 0 ∷ 0 ∷ 0 ∷ 1 ∷ []))) (refused 7)
    ∷ is (told_utxo (utxo_of 20 (0xe8 ∷ 3 ∷ 0 ∷ 0 ∷ 0 ∷ 0 ∷ 0 ∷ 0 ∷ 2 ∷ 0x51 ∷ []))) (refused 7)
    ∷ is (told_utxo (utxo_of 20 (0xe8 ∷ 3 ∷ 0 ∷ 0 ∷ 0 ∷ 0 ∷ 0 ∷ 0 ∷ 0 ∷ 0x51 ∷ []))) (refused 7)
    ∷ is (told_utxo (utxo_of 20 (0xe8 ∷ 3 ∷ 0 ∷ 0 ∷ 0 ∷ 0 ∷ 0 ∷ 0 ∷ 2 ∷ 0x51 ∷ 0x20 ∷ 0 ∷ []))) (refused 7)
    ∷ is (told_utxo (utxo_of 20 (0xe8 ∷ 3 ∷ 0 ∷ 0 ∷ 0 ∷ 0 ∷ 0 ∷ 0 ∷ 0xfc ∷ replicate 251 7))) (refused 7)
    ∷ is (told_utxo (utxo_of 20 (0xe8 ∷ 3 ∷ 0 ∷ 0 ∷ 0 ∷ 0 ∷ 0 ∷ 0 ∷ 0xfc ∷ replicate 253 7))) (refused 7)
    ∷ []

-- so they are told
pub utxos_of_values : Hold values
unfolding lookups values
utxos_of_values = refl

-- input 01 in a map of one pair
unfoldable pub of_inputs : List (Row Told)
of_inputs =
    -- from byte 1 on the length byte is 9: 18 bytes; from byte 20 on it is 28: 37 bytes
    is (told_utxo (get_witness_utxo counting (input_pair 0 0x01 1 1 18))) (utxo 0x0807_0605_0403_0201 10 9)
    ∷ is (told_utxo (get_witness_utxo counting (input_pair 0 0x01 1 20 37))) (utxo 0x1b1a_1918_1716_1514 29 28)
    -- wrong lengths
    ∷ is (told_utxo (get_witness_utxo counting (input_pair 0 0x01 1 1 17))) (refused 7)
    ∷ is (told_utxo (get_witness_utxo counting (input_pair 0 0x01 1 1 19))) (refused 7)
    ∷ is (told_utxo (get_witness_utxo counting (input_pair 0 0x01 1 1 8))) (refused 7)
    ∷ is (told_utxo (get_witness_utxo counting (input_pair 0 0x01 1 1 0))) (refused 7)
    -- absent: key data, another type; 14 and 24
    ∷ is (told_utxo (get_witness_utxo counting (input_pair 0 0x01 2 1 18))) nothing
    ∷ is (told_utxo (get_witness_utxo counting (input_pair 0 0x00 1 1 18))) nothing
    ∷ is (told_utxo (get_witness_utxo counting (input_pair 0 0x02 1 1 18))) nothing
    ∷ is (told_utxo (get_witness_utxo counting (input_pair 1 0x01 1 1 18))) (refused 14)
    ∷ is (told_utxo (get_witness_utxo counting (input_pair 0 0x01 0 1 18))) (refused 24)
    ∷ []

-- so they are told
pub utxos_of_inputs : Hold of_inputs
unfolding lookups of_inputs
utxos_of_inputs = refl

-- the part of the file that is the script
unfoldable pub scripts : List (Row (List ℕ))
scripts =
    is (utxo_part counting (Ok (Some (utxo_with 5 10 3)))) (10 ∷ 11 ∷ 12 ∷ [])
    ∷ is (utxo_part counting (Ok (Some (utxo_with 5 10 0)))) []
    ∷ is (utxo_part counting (get_witness_utxo counting (input_pair 0 0x01 1 1 18))) (10 ∷ 11 ∷ 12 ∷ 13 ∷ 14 ∷ 15 ∷ 16 ∷ 17 ∷ 18 ∷ [])
    ∷ is (utxo_part counting (Ok None)) []
    ∷ is (utxo_part counting (Err BadValue)) []
    ∷ []

-- so it is handed back
pub scripts_handed_back : Hold scripts
unfolding lookups scripts
scripts_handed_back = refl
