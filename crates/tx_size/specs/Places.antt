-- What the tables show of outputs, and where an output's script stands: in the file, or in its entry of the script table.
use Rattle.std.specs.Prelude.{ℕ, Bool, true, false, List, [], ◌∷◌, map, length, take, drop, eqb}
use Rattle.format.specs.Content.{Pair, Found, absent, found}
use Rattle.format.specs.Entries.{shown}
use Rattle.format.specs.Scripts.{Out, out_of}
use Rattle.format.specs.Transaction.{set_so_far}
use Rattle.format.specs.declared.MapEntry.{MapEntry}
use Rattle.format.specs.declared.Psbt.{Psbt}
use Rattle.format.specs.declared.State.{State}
use Rattle.fitness.specs.Fits.{entries_of}
use Rattle.scripts.specs.Tables.{entry_at}
use Rattle.all_maps_fit.specs.Alls.{out_at, from}
use Rattle.all_maps_fit.specs.declared.SizedAt.{SizedAt}
use Rattle.all_maps_fit.specs.declared.SizedAt.TheVariants as S
use Rattle.tx_size.specs.Lengths.{scripted, script_bytes}
use Rattle.tx_size.specs.declared.ScriptAt.{ScriptAt}
use Rattle.tx_size.specs.declared.ScriptAt.TheVariants.{Missing, InFile, InTable}

-- a field is there, by where it stands
unfoldable pub there_at : SizedAt → Bool
there_at S.Missing = false
there_at S.Misfit = false
there_at (S.At s) = true

-- the pairs that a map shows
abbrev pub pairs_in : List ℕ → List ℕ → MapEntry → List Pair
pairs_in f P m = map (shown f) (entries_of P m)

-- what a map shows as an output
unfoldable pub out_in : List ℕ → List ℕ → MapEntry → Out
out_in f P m = out_of (pairs_in f P m)

-- output number i with the script that it has by now, t being the state and T the script table
unfoldable pub out_now : List ℕ → List ℕ → List ℕ → Psbt → State → List ℕ → ℕ → Out
out_now f P M s t T i = scripted (out_at f P M s i) (entry_at (set_so_far t T) i)

-- all of them
unfoldable pub outs_now : List ℕ → List ℕ → List ℕ → Psbt → State → List ℕ → List Out
outs_now f P M s t T = from (out_now f P M s t T) 0 s.outputs

-- a script is set in an entry
unfoldable pub is_set : List ℕ → Bool
is_set [] = false
is_set (b ∷ s) = eqb b 1

-- the script that stands at a place of the file, or in the entry
unfoldable pub script_in : List ℕ → List ℕ → ScriptAt → Found
script_in f e Missing = absent
script_in f e (InFile s n) = found (take n (drop s f))
script_in f e InTable = found (drop 1 e)

-- how many bytes it has
unfoldable pub script_length : List ℕ → List ℕ → ScriptAt → ℕ
script_length f e x = length (script_bytes (script_in f e x))

-- there is one
unfoldable pub has_script : ScriptAt → Bool
has_script Missing = false
has_script (InFile s n) = true
has_script InTable = true
