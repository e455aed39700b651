-- Scripts that the signer sets for outputs without one.
use Rattle.std.specs.Prelude.{ℕ, ◌+◌, ◌*◌, Bool, true, not, ◌&&◌, ◌||◌, List, [], ◌∷◌, ◌++◌, map, length, take, drop, replicate, leb, ltb, eqb, Ok, Err}
use Rattle.format.specs.Tests.{pick, only, every}
use Rattle.format.specs.Keys.{same}
use Rattle.format.specs.Content.{Pair, Found, present, field}
use Rattle.format.specs.Tables.{View, Gathered, unfit, gathered, gather, maps_reported}
use Rattle.format.specs.Locks.{Sized, sized_to, In, in_of}
use Rattle.format.specs.declared.PsbtError.{PsbtError}
use Rattle.format.specs.declared.PsbtError.TheVariants.{InvalidOutputScripts, NoRoom}
use Rattle.format.specs.declared.Psbt.{Psbt}
use Rattle.format.specs.declared.State.{State}
use Rattle.format.specs.declared.Assignment.{Assignment}
use Rattle.format.specs.Answers.{ScriptsSet}

-- what a transaction takes from an output
pub record Out : Type 0 where
  pub amount : Sized
  pub script : Found

-- from an output's pairs
unfoldable pub out_of : List Pair → Out
out_of ps = record { amount = sized_to 8 (field 0x03 ps); script = field 0x04 ps }

-- what all reported maps show: the inputs and the outputs, or the refusal of the first map that is unfit
pub data Reported : Type 0 where
  unfit_map : PsbtError → Reported
  reports : List In → List Out → Reported

-- n inputs behind the global map, and the rest outputs
unfoldable pub reported_by : ℕ → Gathered → Reported
reported_by n (unfit e) = unfit_map e
reported_by n (gathered l) = reports (map in_of (take n (drop 1 l))) (map out_of (drop (1 + n) l))

-- of the maps that are reported
unfoldable pub reported : (ℕ → View) → Psbt → Reported
reported v s = reported_by s.inputs (gather v 0 (maps_reported s))

-- the script that an assignment names in the buffer
unfoldable pub script_in : List ℕ → Assignment → List ℕ
script_in buffer a = take a.len (drop a.start buffer)

-- a taproot script: 34 bytes that begin 51 20
unfoldable pub taproot : List ℕ → Bool
taproot s = eqb (length s) 34 && same (take 2 s) (0x51 ∷ 0x20 ∷ [])

-- an assignment names an output that exists and a taproot script that lies in the buffer
unfoldable pub allowed : ℕ → List ℕ → Assignment → Bool
allowed n buffer a = ltb a.output n && (leb (a.start + a.len) (length buffer) && taproot (script_in buffer a))

-- the assignments that name output i
unfoldable pub named : ℕ → List Assignment → List Assignment
named i xs = only (λ a. eqb a.output i) xs

-- each output, from number i on, is named once where it has no script 04, and never where it has one
unfoldable pub served : ℕ → List Out → List Assignment → Bool
served i [] xs = true
served i (o ∷ os) xs = eqb (length (named i xs)) (pick (present o.script) 0 1) && served (i + 1) os xs

-- assignments as they are given: whole records, or a list of numbers that ends inside one
pub data Given : Type 0 where
  whole : List Assignment → Given
  cut_short : Given

-- an assignment in front of others
unfoldable pub and_more : Assignment → Given → Given
and_more a (whole xs) = whole (a ∷ xs)
and_more a cut_short = cut_short

-- three numbers an assignment: output, start, length
unfoldable pub flat : List ℕ → Given
flat [] = whole []
flat (a ∷ []) = cut_short
flat (a ∷ b ∷ []) = cut_short
flat (a ∷ b ∷ c ∷ r) = and_more (record { output = a; start = b; len = c }) (flat r)

-- how many bytes an entry of the script table takes
abbrev pub script_entry : ℕ
script_entry = 35

-- an output's entry: 01 and the script, or zero bytes
unfoldable pub entry_for : List ℕ → List Assignment → List ℕ
entry_for buffer [] = replicate script_entry 0
entry_for buffer (a ∷ xs) = 1 ∷ script_in buffer a

-- the entries of the outputs from number i on
unfoldable pub entries_for : List ℕ → List Assignment → ℕ → List Out → List ℕ
entries_for buffer xs i [] = []
entries_for buffer xs i (o ∷ os) = entry_for buffer (named i xs) ++ entries_for buffer xs (i + 1) os

-- the assignments are right for the outputs
unfoldable pub right_for : List Out → List ℕ → List Assignment → Bool
right_for outs buffer xs = every (allowed (length outs) buffer) xs && served 0 outs xs

-- scripts may still be set
unfoldable pub settable : State → Bool
settable t = not (t.set || t.written)

-- an answer, and the script table as it is left
pub data SetOut : Type 0 where
  set_out_def : ScriptsSet → List ℕ → SetOut

-- with no outputs nothing counts as set
unfoldable pub after_set : State → List Out → State
after_set t [] = t
after_set t (o ∷ os) = record { set = true; written = t.written }

-- room for an entry per output is tested last
unfoldable pub set_table : List Out → List ℕ → State → List ℕ → List Assignment → SetOut
set_table outs buffer t T xs =
    pick (leb (script_entry * length outs) (length T))
    (set_out_def (Ok (after_set t outs)) (entries_for buffer xs 0 outs ++ drop (script_entry * length outs) T))
    (set_out_def (Err NoRoom) T)

-- scripts may still be set, and the assignments are right
unfoldable pub set_given : List Out → List ℕ → State → List ℕ → Given → SetOut
set_given outs buffer t T cut_short = set_out_def (Err InvalidOutputScripts) T
set_given outs buffer t T (whole xs) =
    pick (settable t && right_for outs buffer xs) (set_table outs buffer t T xs) (set_out_def (Err InvalidOutputScripts) T)

-- no reported map is unfit
unfoldable pub set_by : List ℕ → State → List ℕ → Given → Reported → SetOut
set_by buffer t T g (unfit_map e) = set_out_def (Err e) T
set_by buffer t T g (reports ins outs) = set_given outs buffer t T g

-- the setter, on what maps show: the assignments given, their buffer, the state, the script table
unfoldable pub set_scripts : (ℕ → View) → Psbt → Given → List ℕ → State → List ℕ → SetOut
set_scripts v s g buffer t T = set_by buffer t T g (reported v s)
