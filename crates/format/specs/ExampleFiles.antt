-- The files that examples are made of, E and F as the base prints them, and what E and F leave.
use Rattle.std.specs.Prelude.{ℕ, ◌≡◌, refl, false, List, [], ◌∷◌, ◌++◌, length, replicate, pos, None}
use Rattle.format.specs.Numbers.{bytes_of}
use Rattle.format.specs.Content.{magic}
use Rattle.format.specs.declared.Psbt.{Psbt}
use Rattle.format.specs.declared.State.{State}

-- pairs of the global map: a transaction version of 2
abbrev pub tx_version_def : List ℕ
tx_version_def = 1 ∷ 0x02 ∷ 4 ∷ 2 ∷ 0 ∷ 0 ∷ 0 ∷ []

-- a fallback of n
abbrev pub fallback : ℕ → List ℕ
fallback n = 1 ∷ 0x03 ∷ 4 ∷ bytes_of 4 n

-- a count of n inputs
abbrev pub input_count : ℕ → List ℕ
input_count n = 1 ∷ 0x04 ∷ 1 ∷ n ∷ []

-- a count of n outputs
abbrev pub output_count : ℕ → List ℕ
output_count n = 1 ∷ 0x05 ∷ 1 ∷ n ∷ []

-- a modifiable byte
abbrev pub modifiable_byte : ℕ → List ℕ
modifiable_byte n = 1 ∷ 0x06 ∷ 1 ∷ n ∷ []

-- a version
abbrev pub version : ℕ → List ℕ
version n = 1 ∷ 0xfb ∷ 4 ∷ n ∷ 0 ∷ 0 ∷ 0 ∷ []

-- the end of a map
abbrev pub end : List ℕ
end = 0 ∷ []

-- pairs of an input: a txid
abbrev pub txid : List ℕ
txid = 1 ∷ 0x0e ∷ 0x20 ∷ replicate 32 0x11

-- output index 0
abbrev pub output_index : List ℕ
output_index = 1 ∷ 0x0f ∷ 4 ∷ 0 ∷ 0 ∷ 0 ∷ 0 ∷ []

-- a required time
abbrev pub time : ℕ → List ℕ
time n = 1 ∷ 0x11 ∷ 4 ∷ bytes_of 4 n

-- a required height
abbrev pub height : ℕ → List ℕ
height n = 1 ∷ 0x12 ∷ 4 ∷ bytes_of 4 n

-- pairs of an output: an amount of 1,000
abbrev pub amount : List ℕ
amount = 1 ∷ 0x03 ∷ 8 ∷ 0xe8 ∷ 3 ∷ 0 ∷ 0 ∷ 0 ∷ 0 ∷ 0 ∷ 0 ∷ []

-- a script of one byte
abbrev pub script : List ℕ
script = 1 ∷ 0x04 ∷ 1 ∷ 0x51 ∷ []

-- a global map that counts n inputs and m outputs, with more between
abbrev pub globals : ℕ → ℕ → List ℕ → List ℕ → List ℕ
globals n m early late = magic ++ (tx_version_def ++ (early ++ (input_count n ++ (output_count m ++ (late ++ (version 2 ++ end))))))

-- file E
abbrev pub file_e : List ℕ
file_e = globals 0 0 [] []

-- file F with a fallback, locks and output pairs of one's own
abbrev pub file_f_with : List ℕ → List ℕ → List ℕ → List ℕ
file_f_with early locks outs = globals 1 1 early [] ++ (txid ++ (output_index ++ (locks ++ (end ++ (amount ++ (outs ++ end))))))

-- file F
abbrev pub file_f : List ℕ
file_f = file_f_with [] [] script

-- an output's code 09
abbrev pub code : List ℕ
code = 1 ∷ 0x09 ∷ 66 ∷ replicate 66 2

-- an output's label 0a
abbrev pub label : List ℕ
label = 1 ∷ 0x0a ∷ 4 ∷ 0 ∷ 0 ∷ 0 ∷ 0 ∷ []

-- a count of 2^64 - 1
abbrev pub greatest_count : List ℕ
greatest_count = 1 ∷ 0x04 ∷ 9 ∷ replicate 9 0xff

-- file E, byte by byte
abbrev pub printed_e : List ℕ
printed_e =
    0x70 ∷ 0x73 ∷ 0x62 ∷ 0x74 ∷ 0xff
    ∷ 0x01 ∷ 0x02 ∷ 0x04 ∷ 0x02 ∷ 0x00 ∷ 0x00 ∷ 0x00
    ∷ 0x01 ∷ 0x04 ∷ 0x01 ∷ 0x00
    ∷ 0x01 ∷ 0x05 ∷ 0x01 ∷ 0x00
    ∷ 0x01 ∷ 0xfb ∷ 0x04 ∷ 0x02 ∷ 0x00 ∷ 0x00 ∷ 0x00
    ∷ 0x00
    ∷ []

-- E is that
pub E_as_printed : file_e ≡ printed_e
E_as_printed = refl

-- 28 bytes
pub E_has_28 : length file_e ≡ 28
E_has_28 = refl

-- file F, byte by byte: E with both counts 01, then an input and an output
abbrev pub printed_f : List ℕ
printed_f =
    0x70 ∷ 0x73 ∷ 0x62 ∷ 0x74 ∷ 0xff
    ∷ 0x01 ∷ 0x02 ∷ 0x04 ∷ 0x02 ∷ 0x00 ∷ 0x00 ∷ 0x00
    ∷ 0x01 ∷ 0x04 ∷ 0x01 ∷ 0x01
    ∷ 0x01 ∷ 0x05 ∷ 0x01 ∷ 0x01
    ∷ 0x01 ∷ 0xfb ∷ 0x04 ∷ 0x02 ∷ 0x00 ∷ 0x00 ∷ 0x00
    ∷ 0x00
    ∷ 0x01 ∷ 0x0e ∷ 0x20
    ∷ 0x11 ∷ 0x11 ∷ 0x11 ∷ 0x11 ∷ 0x11 ∷ 0x11 ∷ 0x11 ∷ 0x11 ∷ 0x11 ∷ 0x11 ∷ 0x11 ∷ 0x11 ∷ 0x11 ∷ 0x11 ∷ 0x11 ∷ 0x11
    ∷ 0x11 ∷ 0x11 ∷ 0x11 ∷ 0x11 ∷ 0x11 ∷ 0x11 ∷ 0x11 ∷ 0x11 ∷ 0x11 ∷ 0x11 ∷ 0x11 ∷ 0x11 ∷ 0x11 ∷ 0x11 ∷ 0x11 ∷ 0x11
    ∷ 0x01 ∷ 0x0f ∷ 0x04 ∷ 0x00 ∷ 0x00 ∷ 0x00 ∷ 0x00
    ∷ 0x00
    ∷ 0x01 ∷ 0x03 ∷ 0x08 ∷ 0xe8 ∷ 0x03 ∷ 0x00 ∷ 0x00 ∷ 0x00 ∷ 0x00 ∷ 0x00 ∷ 0x00
    ∷ 0x01 ∷ 0x04 ∷ 0x01 ∷ 0x51
    ∷ 0x00
    ∷ []

-- F is that
pub F_as_printed : file_f ≡ printed_f
F_as_printed = refl

-- 87 bytes
pub F_has_87 : length file_f ≡ 87
F_has_87 = refl

-- F's transaction with a lock time, 61 bytes
abbrev pub tx_f : List ℕ → List ℕ
tx_f lock =
    2 ∷ 0 ∷ 0 ∷ 0 ∷ 1 ∷ (replicate 32 0x11 ++ (0 ∷ 0 ∷ 0 ∷ 0 ∷ 0 ∷ 0xff ∷ 0xff ∷ 0xff ∷ 0xff
    ∷ 1 ∷ 0xe8 ∷ 3 ∷ 0 ∷ 0 ∷ 0 ∷ 0 ∷ 0 ∷ 0 ∷ 1 ∷ 0x51 ∷ lock))

-- E's transaction, 10 bytes
abbrev pub tx_e : List ℕ
tx_e = 2 ∷ 0 ∷ 0 ∷ 0 ∷ 0 ∷ 0 ∷ 0 ∷ 0 ∷ 0 ∷ 0 ∷ []

-- no scripts set, no transaction written
abbrev pub fresh : State
fresh = record { set = false; written = false }

-- what is reported of E
abbrev pub psbt_e : Psbt
psbt_e = record { tx_version = pos 2; fallback_locktime = None; tx_modifiable = None; inputs = 0; outputs = 0 }

-- what is reported of F
abbrev pub psbt_f : Psbt
psbt_f = record { tx_version = pos 2; fallback_locktime = None; tx_modifiable = None; inputs = 1; outputs = 1 }

-- the pair entries that E leaves, in a map entry 0 4
abbrev pub pairs_e : List ℕ
pairs_e = 6 ∷ 1 ∷ 8 ∷ 4 ∷ 13 ∷ 1 ∷ 15 ∷ 1 ∷ 17 ∷ 1 ∷ 19 ∷ 1 ∷ 21 ∷ 1 ∷ 23 ∷ 4 ∷ []

-- the pair entries that F leaves
abbrev pub pairs_f : List ℕ
pairs_f = pairs_e ++ (29 ∷ 1 ∷ 31 ∷ 32 ∷ 64 ∷ 1 ∷ 66 ∷ 4 ∷ 72 ∷ 1 ∷ 74 ∷ 8 ∷ 83 ∷ 1 ∷ 85 ∷ 1 ∷ [])

-- the map entries that F leaves
abbrev pub maps_f : List ℕ
maps_f = 0 ∷ 4 ∷ 4 ∷ 2 ∷ 6 ∷ 2 ∷ []
