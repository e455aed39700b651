-- The file that examples of tables and lookups look into: byte number i is i, so a key of type t may stand at byte t.
use Rattle.std.specs.Prelude.{ℕ, List, [], ◌∷◌, take, drop, pos, None}
use Rattle.format.specs.Tables.{Held, held, held_input, held_output}
use Rattle.format.specs.Told.{Told, told, nat}
use Rattle.format.specs.declared.Psbt.{Psbt}
use Rattle.format.specs.declared.PairEntry.{PairEntry}
use Rattle.format.specs.declared.MapEntry.{MapEntry}

-- its 132 bytes
abbrev pub counting : List ℕ
counting =
    0 ∷ 1 ∷ 2 ∷ 3 ∷ 4 ∷ 5 ∷ 6 ∷ 7 ∷ 8 ∷ 9 ∷ 10 ∷ 11 ∷ 12 ∷ 13 ∷ 14 ∷ 15 ∷ 16 ∷ 17 ∷ 18 ∷ 19 ∷ 20 ∷ 21
    ∷ 22 ∷ 23 ∷ 24 ∷ 25 ∷ 26 ∷ 27 ∷ 28 ∷ 29 ∷ 30 ∷ 31 ∷ 32 ∷ 33 ∷ 34 ∷ 35 ∷ 36 ∷ 37 ∷ 38 ∷ 39 ∷ 40 ∷ 41 ∷ 42 ∷ 43
    ∷ 44 ∷ 45 ∷ 46 ∷ 47 ∷ 48 ∷ 49 ∷ 50 ∷ 51 ∷ 52 ∷ 53 ∷ 54 ∷ 55 ∷ 56 ∷ 57 ∷ 58 ∷ 59 ∷ 60 ∷ 61 ∷ 62 ∷ 63 ∷ 64 ∷ 65
    ∷ 66 ∷ 67 ∷ 68 ∷ 69 ∷ 70 ∷ 71 ∷ 72 ∷ 73 ∷ 74 ∷ 75 ∷ 76 ∷ 77 ∷ 78 ∷ 79 ∷ 80 ∷ 81 ∷ 82 ∷ 83 ∷ 84 ∷ 85 ∷ 86 ∷ 87
    ∷ 88 ∷ 89 ∷ 90 ∷ 91 ∷ 92 ∷ 93 ∷ 94 ∷ 95 ∷ 96 ∷ 97 ∷ 98 ∷ 99 ∷ 100 ∷ 101 ∷ 102 ∷ 103 ∷ 104 ∷ 105 ∷ 106 ∷ 107 ∷ 108 ∷ 109
    ∷ 110 ∷ 111 ∷ 112 ∷ 113 ∷ 114 ∷ 115 ∷ 116 ∷ 117 ∷ 118 ∷ 119 ∷ 120 ∷ 121 ∷ 122 ∷ 123 ∷ 124 ∷ 125 ∷ 126 ∷ 127 ∷ 128 ∷ 129 ∷ 130 ∷ 131 ∷ []

-- n bytes of it from number s on
abbrev pub bytes_at : ℕ → ℕ → List ℕ
bytes_at s n = take n (drop s counting)

-- a report of so many inputs and outputs
abbrev pub counts : ℕ → ℕ → Psbt
counts i o = record { tx_version = pos 2; fallback_locktime = None; tx_modifiable = None; inputs = i; outputs = o }

-- an entry: key start, key length, value start, value length
abbrev pub entry : ℕ → ℕ → ℕ → ℕ → PairEntry
entry k n v m = record { key = k; klen = n; value = v; vlen = m }

-- a map's entry: first pair, number of pairs
abbrev pub map_entry : ℕ → ℕ → MapEntry
map_entry i n = record { first = i; count = n }

-- map number i of tables with the global map alone, which has one pair: its key and its value by start and length
abbrev pub global_pair : ℕ → ℕ → ℕ → ℕ → ℕ → Held
global_pair i k n v m = held counting (k ∷ n ∷ v ∷ m ∷ []) (0 ∷ 1 ∷ []) (counts 0 0) i

-- input number i of tables with one input, which has one pair
abbrev pub input_pair : ℕ → ℕ → ℕ → ℕ → ℕ → Held
input_pair i k n v m = held_input counting (k ∷ n ∷ v ∷ m ∷ []) (0 ∷ 0 ∷ 0 ∷ 1 ∷ []) (counts 1 0) i

-- output number i of tables with one output, which has one pair
abbrev pub output_pair : ℕ → ℕ → ℕ → ℕ → ℕ → Held
output_pair i k n v m = held_output counting (k ∷ n ∷ v ∷ m ∷ []) (0 ∷ 0 ∷ 0 ∷ 1 ∷ []) (counts 0 1) i

-- told of a place: start and length
abbrev pub at : ℕ → ℕ → Told
at s n = told 0 (nat s ∷ nat n ∷ [])

-- told of a number
abbrev pub number : ℕ → Told
number n = told 0 (nat n ∷ [])

-- told of absence
abbrev pub nothing : Told
nothing = told 0 []

-- told of a refusal
abbrev pub refused : ℕ → Told
refused e = told e []
