-- What the setter writes, by how many outputs there are, and what writing asks.
use Rattle.std.specs.Prelude.{ℕ, zero, suc, ◌+◌, ◌*◌, ◌≤◌, ◌≡◌, true, List, [], ◌++◌, length, drop, leb, eqb, Ok, Err}
use Rattle.format.specs.Tests.{pick, every}
use Rattle.format.specs.Scripts.{named, script_entry, entry_for, SetOut, set_out_def}
use Rattle.format.specs.declared.PsbtError.TheVariants.{NoRoom}
use Rattle.format.specs.declared.State.{State}
use Rattle.format.specs.declared.Assignment.{Assignment}
use Rattle.setter.specs.Records.{sound}

-- the entries of n outputs from number i on
unfoldable pub entries_from : List ℕ → List Assignment → ℕ → ℕ → List ℕ
entries_from buffer xs i zero = []
entries_from buffer xs i (suc n) = entry_for buffer (named i xs) ++ entries_from buffer xs (i + 1) n

-- the state, with scripts set for n outputs
unfoldable pub state_after : State → ℕ → State
state_after t n = pick (eqb n 0) t (record { set = true; written = t.written })

-- the table filled for n outputs, or that it has no room
unfoldable pub filled_for : ℕ → List ℕ → State → List ℕ → List Assignment → SetOut
filled_for n buffer t T xs =
    pick (leb (script_entry * n) (length T))
    (set_out_def (Ok (state_after t n)) (entries_from buffer xs 0 n ++ drop (script_entry * n) T))
    (set_out_def (Err NoRoom) T)

-- an assignment's script is a taproot script in the buffer, and a table has room for its entry at a place
pub record Giving (T : List ℕ) (at : ℕ) (buffer : List ℕ) (a : Assignment) : Type 0 where
  pub room : at + 35 ≤ length T
  pub given : sound buffer a ≡ true

-- the scripts of some assignments are taproot scripts that lie in the buffer
pub record Sound (buffer : List ℕ) (xs : List Assignment) : Type 0 where
  pub all : every (sound buffer) xs ≡ true

-- and a table has room up to an end
pub record Ready (T : List ℕ) (end : ℕ) (buffer : List ℕ) (xs : List Assignment) : Type 0 where
  pub room : end ≤ length T
  pub sounds : Sound buffer xs
