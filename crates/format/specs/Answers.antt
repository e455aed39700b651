-- The answers of the calls: a value, perhaps none, or the refusal.
use Rattle.std.specs.Prelude.{ℕ, Option, Result, Ok}
use Rattle.format.specs.declared.PsbtError.{PsbtError}
use Rattle.format.specs.declared.CompactSize.{CompactSize}
use Rattle.format.specs.declared.PairEntry.{PairEntry}
use Rattle.format.specs.declared.Part.{Part}
use Rattle.format.specs.declared.Listed.{Listed}
use Rattle.format.specs.declared.WitnessUtxo.{WitnessUtxo}
use Rattle.format.specs.declared.Lock.{Lock}
use Rattle.format.specs.declared.State.{State}
use Rattle.format.specs.declared.Written.{Written}
use Rattle.format.specs.declared.ScriptPlace.{ScriptPlace}

-- a value, or the refusal
abbrev pub Answer : Type 0 → Type 0
Answer A = Result A PsbtError

-- what a rule says: passed, or the refusal
abbrev pub Ruled : Type 0
Ruled = Answer (Unit {0})

-- a rule that passed
abbrev pub passed : Ruled
passed = Ok tt

-- a number that may be absent
abbrev pub Maybe : Type 0
Maybe = Option ℕ

-- a number
abbrev pub Numbering : Type 0
Numbering = Answer ℕ

-- a compact size
abbrev pub Size : Type 0
Size = Answer CompactSize

-- the value v, spelt by n bytes
abbrev pub spelt : ℕ → ℕ → CompactSize
spelt v n = record { value = v; used = n }

-- where a value stands in the file, or that there is none
abbrev pub Looked : Type 0
Looked = Answer (Option Part)

-- n bytes from s on
abbrev pub part_at : ℕ → ℕ → Part
part_at s n = record { start = s; len = n }

-- a number looked up, or that there is none
abbrev pub Numbered : Type 0
Numbered = Answer (Option ℕ)

-- a listing by type
abbrev pub Listing : Type 0
Listing = Answer Listed

-- n pairs from number i of their map on
abbrev pub pairs_at : ℕ → ℕ → Listed
pairs_at i n = record { first = i; count = n }

-- a pair asked by its number in its map
abbrev pub Nth : Type 0
Nth = Answer PairEntry

-- a witness UTXO, or that there is none
abbrev pub Utxo : Type 0
Utxo = Answer (Option WitnessUtxo)

-- the amount a, and a script of n bytes from s on
abbrev pub utxo_with : ℕ → ℕ → ℕ → WitnessUtxo
utxo_with a s n = record { amount = a; start = s; len = n }

-- what decided the lock
abbrev pub Decided : Type 0
Decided = Answer Lock

-- the state that the setter leaves
abbrev pub ScriptsSet : Type 0
ScriptsSet = Answer State

-- a transaction that was written
abbrev pub UnsignedTx : Type 0
UnsignedTx = Answer Written

-- n bytes were written, and the state t is left
abbrev pub wrote_tx : ℕ → State → Written
wrote_tx n t = record { len = n; state = t }

-- where an output's script stands, or that there is none
abbrev pub OutputScript : Type 0
OutputScript = Answer (Option ScriptPlace)
