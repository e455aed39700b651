-- Maps that examples are made of: pairs spelled by a type and a value, what maps show one by one, and what is reported.
use Rattle.std.specs.Prelude.{ℕ, zero, suc, List, [], ◌∷◌, length, replicate, pos, None}
use Rattle.format.specs.Content.{Pair}
use Rattle.format.specs.Tables.{View, hides, shows}
use Rattle.format.specs.declared.PsbtError.TheVariants.{OutOfRange}
use Rattle.format.specs.Answers.{Maybe}
use Rattle.format.specs.declared.Psbt.{Psbt}

-- a pair of a type without key data
abbrev pub pair_of : ℕ → List ℕ → Pair
pair_of t v = record { klen = 1 ∷ []; key = t ∷ []; vlen = length v ∷ []; value = v }

-- what maps show, in file order; there are no others
unfoldable pub views : List View → ℕ → View
views [] i = hides OutOfRange
views (v ∷ vs) zero = v
views (v ∷ vs) (suc i) = views vs i

-- a report of transaction version 2, with a fallback and so many inputs and outputs
abbrev pub reporting : Maybe → ℕ → ℕ → Psbt
reporting f n m = record { tx_version = pos 2; fallback_locktime = f; tx_modifiable = None; inputs = n; outputs = m }

-- a taproot script: 51 20 and 32 bytes b
abbrev pub taproot_script : ℕ → List ℕ
taproot_script b = 0x51 ∷ 0x20 ∷ replicate 32 b

-- an output with an amount of 1,000 and a script of one byte
abbrev pub plain_out : View
plain_out = shows (pair_of 0x03 (0xe8 ∷ 3 ∷ 0 ∷ 0 ∷ 0 ∷ 0 ∷ 0 ∷ 0 ∷ []) ∷ pair_of 0x04 (0x51 ∷ []) ∷ [])

-- an output with an amount of 2,000 and a silent payment code, and so without a script
abbrev pub silent_out : View
silent_out = shows (pair_of 0x03 (0xd0 ∷ 7 ∷ 0 ∷ 0 ∷ 0 ∷ 0 ∷ 0 ∷ 0 ∷ []) ∷ pair_of 0x09 (replicate 66 2) ∷ [])
