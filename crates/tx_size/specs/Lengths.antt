-- How many bytes a transaction takes, by its inputs and outputs, and what an output must have.
use Rattle.std.specs.Prelude.{ℕ, ◌+◌, ◌*◌, Bool, true, false, List, [], ◌∷◌, length, leb, Ok, Err}
use Rattle.format.specs.Tests.{pick}
use Rattle.format.specs.Content.{Found, absent, found}
use Rattle.format.specs.Locks.{Sized, missing, misfit, is}
use Rattle.format.specs.Scripts.{Out}
use Rattle.format.specs.Transaction.{script_of}
use Rattle.format.specs.Answers.{Answer}
use Rattle.format.specs.declared.PsbtError.TheVariants.{BadValue, MissingOutputScript}
use Rattle.format.specs.declared.Psbt.{Psbt}
use Rattle.writer.specs.Writes.{size_length}

-- a field is there, with its length
unfoldable pub is_there : Sized → Bool
is_there missing = false
is_there misfit = false
is_there (is v) = true

-- an output with the script that it has by now, the table's entry being e
unfoldable pub scripted : Out → List ℕ → Out
scripted o e = record { amount = o.amount; script = script_of o.script e }

-- the bytes of a script that may be absent
unfoldable pub script_bytes : Found → List ℕ
script_bytes absent = []
script_bytes (found s) = s

-- how many bytes an input takes
abbrev pub input_length : ℕ
input_length = 41

-- how many bytes an output with a script of n bytes takes
unfoldable pub out_length : ℕ → ℕ
out_length n = 8 + (size_length n + n)

-- outputs, together
unfoldable pub outs_length : List Out → ℕ
outs_length [] = 0
outs_length (o ∷ os) = out_length (length (script_bytes o.script)) + outs_length os

-- the greatest number of 64 bits: more bytes than any buffer has
abbrev pub greatest : ℕ
greatest = 18446744073709551615

-- a number that no longer grows past it
unfoldable pub capped : ℕ → ℕ
capped n = pick (leb n greatest) n greatest

-- how many bytes something takes, or the refusal
abbrev pub Measure : Type 0
Measure = Answer ℕ

-- an output's measure: amount missing, then script missing
unfoldable pub measure_by : Sized → Found → Measure
measure_by missing s = Err BadValue
measure_by misfit s = Err BadValue
measure_by (is a) absent = Err MissingOutputScript
measure_by (is a) (found s) = Ok (out_length (length s))

-- the same of an output as it is
unfoldable pub out_measure : Out → Measure
out_measure o = measure_by o.amount o.script

-- n bytes, then an output of this measure, then what k says of the bytes so far
unfoldable pub more_by : (ℕ → Measure) → ℕ → Measure → Measure
more_by k n (Err e) = Err e
more_by k n (Ok w) = k (capped (n + w))

-- n bytes and then the outputs: how many bytes that is, or the first refusal
unfoldable pub outs_measure : List Out → ℕ → Measure
outs_measure [] n = Ok n
outs_measure (o ∷ os) n = more_by (outs_measure os) n (out_measure o)

-- all but the outputs of a transaction with n inputs and m outputs
unfoldable pub fixed_length : ℕ → ℕ → ℕ
fixed_length n m = n * input_length + (8 + size_length n + size_length m)

-- a transaction whose inputs have what they need, with these outputs
unfoldable pub tx_measure : Psbt → List Out → Measure
tx_measure s outs = outs_measure outs (capped (fixed_length s.inputs s.outputs))
