-- An output's script by what its map has, and the script that an answer names.
use Rattle.std.specs.Prelude.{ℕ, ◌+◌, ◌*◌, true, false, List, take, drop, Ok, Err, Some, None}
use Rattle.format.specs.Tests.{pick}
use Rattle.format.specs.Content.{Found, absent, found}
use Rattle.format.specs.Scripts.{script_entry}
use Rattle.format.specs.declared.PsbtError.TheVariants.{BadIndex}
use Rattle.format.specs.declared.State.{State}
use Rattle.format.specs.Answers.{OutputScript}
use Rattle.format.specs.declared.ScriptPlace.TheVariants.{InFile, InTable}
use Rattle.scripts.specs.Tables.{entry_at, fits_by}

-- an output with a script 04 of n bytes at s: once scripts are set, its entry is blank
unfoldable pub in_file : State → List ℕ → ℕ → ℕ → ℕ → OutputScript
in_file t T i s n = pick t.set (pick (fits_by true (entry_at T i)) (Ok (Some (InFile s n))) (Err BadIndex)) (Ok (Some (InFile s n)))

-- an output without: once scripts are set, its entry has one
unfoldable pub in_table : State → List ℕ → ℕ → OutputScript
in_table t T i = pick t.set (pick (fits_by false (entry_at T i)) (Ok (Some (InTable (i * script_entry + 1) 34))) (Err BadIndex)) (Ok None)

-- the script that an answer names, none where it names none
unfoldable pub standing : List ℕ → List ℕ → OutputScript → Found
standing f T (Err e) = absent
standing f T (Ok None) = absent
standing f T (Ok (Some (InFile s n))) = found (take n (drop s f))
standing f T (Ok (Some (InTable s n))) = found (take n (drop s T))
