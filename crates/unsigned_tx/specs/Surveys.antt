-- What is asked of inputs before anything is written, and outputs with the scripts that they have by now.
use Rattle.std.specs.Prelude.{ℕ, ◌≡◌, Bool, true, false, ◌&&◌, List, [], ◌∷◌, take, drop}
use Rattle.format.specs.Tests.{every}
use Rattle.format.specs.Locks.{In}
use Rattle.format.specs.Scripts.{Out, script_entry}
use Rattle.format.specs.declared.Psbt.{Psbt}
use Rattle.all_maps_fit.specs.Alls.{AllFit, ins_of}
use Rattle.all_maps_fit.specs.declared.SizedAt.{SizedAt}
use Rattle.all_maps_fit.specs.declared.SizedAt.TheVariants as S
use Rattle.all_maps_fit.specs.declared.InputAt.{InputAt}
use Rattle.lock.specs.Asks.{no_asks, walk}
use Rattle.tx_size.specs.Lengths.{scripted}
use Rattle.tx_size.specs.Places.{there_at}
use Rattle.tx_bytes.specs.Bytes.{input_ok_def}
use Rattle.unsigned_tx.specs.declared.Survey.{Survey}

-- a field may be absent, but has its length where it is there
unfoldable pub allowed_at : SizedAt → Bool
allowed_at S.Missing = true
allowed_at S.Misfit = false
allowed_at (S.At s) = true

-- an input whose fields stand at these places has what a transaction needs
unfoldable pub ok_at : InputAt → Bool
ok_at a = there_at a.txid && (there_at a.index && allowed_at a.sequence)

-- what inputs ask of the lock, and whether each has what a transaction needs
unfoldable pub survey_of : List In → Survey
survey_of ins = record { asks = walk no_asks 0 ins; ok = every input_ok_def ins }

-- maps that are fit, and inputs that have what a transaction needs
pub record AllOk (f P M : List ℕ) (s : Psbt) : Type 0 where
  pub all_fit : AllFit f P M s
  pub ok : every input_ok_def (ins_of f P M s) ≡ true

-- outputs with the scripts that they have by now, T being the script table from the first one's entry on
unfoldable pub all_scripted : List Out → List ℕ → List Out
all_scripted [] T = []
all_scripted (o ∷ os) T = scripted o (take script_entry T) ∷ all_scripted os (drop script_entry T)
