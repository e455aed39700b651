-- What writing asks: maps that are fit, and a buffer with the room.
use Rattle.std.specs.Prelude.{ℕ, ◌+◌, ◌*◌, ◌≤◌, List, length}
use Rattle.format.specs.Locks.{In, in_of}
use Rattle.format.specs.declared.MapEntry.{MapEntry}
use Rattle.format.specs.declared.Psbt.{Psbt}
use Rattle.format.specs.declared.State.{State}
use Rattle.writer.specs.Writes.{size_length}
use Rattle.all_maps_fit.specs.Alls.{Usable, AllFit}
use Rattle.tx_size.specs.Lengths.{scripted, script_bytes, input_length, out_length, outs_length, fixed_length}
use Rattle.tx_size.specs.Places.{pairs_in, out_in, outs_now}

-- what a map shows as an input
unfoldable pub in_in : List ℕ → List ℕ → MapEntry → In
in_in f P m = in_of (pairs_in f P m)

-- an input is written where its map is fit and the buffer, n bytes long, has the room behind `at`
pub record InputRoom (f P : List ℕ) (m : MapEntry) (at n : ℕ) : Type 0 where
  pub usable : Usable f P m
  pub room : at + input_length ≤ n

-- all inputs, where all maps are fit
pub record InputsRoom (f P M : List ℕ) (s : Psbt) (at n : ℕ) : Type 0 where
  pub all_fit : AllFit f P M s
  pub room : at + s.inputs * input_length ≤ n

-- an output, e being its entry of the script table
pub record OutputRoom (f P : List ℕ) (m : MapEntry) (e : List ℕ) (at n : ℕ) : Type 0 where
  pub usable : Usable f P m
  pub room : at + out_length (length (script_bytes (scripted (out_in f P m) e).script)) ≤ n

-- all outputs
pub record OutputsRoom (f P M : List ℕ) (s : Psbt) (t : State) (T : List ℕ) (at n : ℕ) : Type 0 where
  pub all_fit : AllFit f P M s
  pub room : at + outs_length (outs_now f P M s t T) ≤ n

-- version, count of inputs and inputs
pub record FrontRoom (f P M : List ℕ) (s : Psbt) (n : ℕ) : Type 0 where
  pub all_fit : AllFit f P M s
  pub room : 4 + size_length s.inputs + s.inputs * input_length ≤ n

-- count of outputs, outputs and lock time
pub record RestRoom (f P M : List ℕ) (s : Psbt) (t : State) (T : List ℕ) (at n : ℕ) : Type 0 where
  pub all_fit : AllFit f P M s
  pub room : at + (size_length s.outputs + (outs_length (outs_now f P M s t T) + 4)) ≤ n

-- the transaction
pub record TxRoom (f P M : List ℕ) (s : Psbt) (t : State) (T : List ℕ) (n : ℕ) : Type 0 where
  pub all_fit : AllFit f P M s
  pub room : fixed_length s.inputs s.outputs + outs_length (outs_now f P M s t T) ≤ n
