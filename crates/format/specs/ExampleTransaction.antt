-- Computed examples of the unsigned transaction: its bytes, the scripts set, each refusal, the order of refusals, and the buffer as it is left.
use Rattle.std.specs.Prelude.{ℕ, refl, Bool, true, false, List, [], ◌∷◌, ◌++◌, replicate, ℤ, pos, negsuc, Some, None}
use Rattle.format.specs.Rows.{Row, is, Hold}
use Rattle.format.specs.Content.{absent, found}
use Rattle.format.specs.Tables.{View, hides, shows}
use Rattle.format.specs.Locks.{Sized, missing, misfit, is as bytes, In}
use Rattle.format.specs.Scripts.{Out}
use Rattle.format.specs.Transaction.{table_fits, Tx, refuses, writes, transaction, unsigned_tx_def}
use Rattle.format.specs.Told.{told, nat, flag, ToldOut, told_left, told_tx_out}
use Rattle.format.specs.ExampleFiles.{fresh}
use Rattle.format.specs.ExampleMaps.{pair_of, views, reporting, taproot_script, plain_out, silent_out}
use Rattle.format.specs.Computed.{computes}
use Rattle.format.specs.declared.PsbtError.TheVariants.{BadValue, MissingOutputScript, BadIndex}
use Rattle.format.specs.declared.Psbt.{Psbt}
use Rattle.format.specs.declared.State.{State}

-- scripts were set
abbrev served : State
served = record { set = true; written = false }

-- an output with a script, and one without
abbrev scripted : Out
scripted = record { amount = bytes []; script = found (0x51 ∷ []) }

-- an output without a script
abbrev bare : Out
bare = record { amount = bytes []; script = absent }

-- an entry of the script table
abbrev entry : ℕ → List ℕ
entry b = 1 ∷ taproot_script b

-- script tables: 01 and a taproot script for an output without script, 35 zero bytes for one with; bytes behind the last count for nothing
unfoldable pub script_tables : List (Row Bool)
script_tables =
    is (table_fits served [] []) true
    ∷ is (table_fits served (bare ∷ []) (entry 7)) true
    ∷ is (table_fits served (bare ∷ []) (entry 7 ++ (9 ∷ []))) true
    ∷ is (table_fits served (scripted ∷ []) (replicate 35 0)) true
    ∷ is (table_fits served (scripted ∷ bare ∷ scripted ∷ []) (replicate 35 0 ++ (entry 7 ++ replicate 36 0))) true
    -- too short
    ∷ is (table_fits served (bare ∷ []) []) false
    ∷ is (table_fits served (bare ∷ []) (1 ∷ 0x51 ∷ 0x20 ∷ replicate 31 7)) false
    ∷ is (table_fits served (scripted ∷ []) (replicate 34 0)) false
    ∷ is (table_fits served (bare ∷ bare ∷ []) (entry 7)) false
    -- another first byte, another script
    ∷ is (table_fits served (bare ∷ []) (replicate 35 0)) false
    ∷ is (table_fits served (bare ∷ []) (0 ∷ taproot_script 7)) false
    ∷ is (table_fits served (bare ∷ []) (2 ∷ taproot_script 7)) false
    ∷ is (table_fits served (bare ∷ []) (1 ∷ 0x52 ∷ 0x20 ∷ replicate 32 7)) false
    ∷ is (table_fits served (bare ∷ []) (1 ∷ 0x51 ∷ 0x21 ∷ replicate 32 7)) false
    -- an entry for the other kind of output, one byte that is not zero
    ∷ is (table_fits served (scripted ∷ []) (entry 7)) false
    ∷ is (table_fits served (scripted ∷ []) (replicate 34 0 ++ (1 ∷ []))) false
    ∷ is (table_fits served (scripted ∷ []) (1 ∷ replicate 34 0)) false
    ∷ is (table_fits served (scripted ∷ bare ∷ []) (entry 7 ++ replicate 35 0)) false
    ∷ is (table_fits served (bare ∷ bare ∷ []) (entry 7 ++ (0 ∷ taproot_script 8))) false
    -- nothing was set: any table
    ∷ is (table_fits fresh (bare ∷ []) []) true
    ∷ is (table_fits fresh (scripted ∷ []) (entry 7)) true
    ∷ []

-- so script tables fit
pub script_tables_lem : Hold script_tables
unfolding computes script_tables
script_tables_lem = refl

-- an input of three fields
abbrev input : Sized → Sized → Sized → In
input t x s = record { txid = t; index = x; sequence = s; time = missing; height = missing }

-- an input whose fields have no bytes
abbrev tiny : In
tiny = input (bytes []) (bytes []) (bytes [])

-- an output whose amount has no bytes, with an empty script
abbrev tiny_out : Out
tiny_out = record { amount = bytes []; script = found [] }

-- a report with a transaction version
abbrev versioned : ℤ → Psbt
versioned z = record { tx_version = z; fallback_locktime = None; tx_modifiable = None; inputs = 0; outputs = 0 }

-- the bytes, field by field: version (signed), input count, inputs, output count, outputs, lock time; counts and lengths the shortest
unfoldable pub layouts : List (Row Tx)
layouts =
    is (transaction (reporting None 0 0) [] [] []) (writes (2 ∷ 0 ∷ 0 ∷ 0 ∷ 0 ∷ 0 ∷ 0 ∷ 0 ∷ 0 ∷ 0 ∷ []))
    -- versions: 1, the greatest, -1, -2, the least
    ∷ is (transaction (versioned (pos 1)) [] [] []) (writes (1 ∷ 0 ∷ 0 ∷ 0 ∷ 0 ∷ 0 ∷ 0 ∷ 0 ∷ 0 ∷ 0 ∷ []))
    ∷ is (transaction (versioned (pos 0x7fff_ffff)) [] [] []) (writes (0xff ∷ 0xff ∷ 0xff ∷ 0x7f ∷ 0 ∷ 0 ∷ 0 ∷ 0 ∷ 0 ∷ 0 ∷ []))
    ∷ is (transaction (versioned (negsuc 0)) [] [] []) (writes (0xff ∷ 0xff ∷ 0xff ∷ 0xff ∷ 0 ∷ 0 ∷ 0 ∷ 0 ∷ 0 ∷ 0 ∷ []))
    ∷ is (transaction (versioned (negsuc 1)) [] [] []) (writes (0xfe ∷ 0xff ∷ 0xff ∷ 0xff ∷ 0 ∷ 0 ∷ 0 ∷ 0 ∷ 0 ∷ 0 ∷ []))
    ∷ is (transaction (versioned (negsuc 0x7fff_ffff)) [] [] []) (writes (0x00 ∷ 0x00 ∷ 0x00 ∷ 0x80 ∷ 0 ∷ 0 ∷ 0 ∷ 0 ∷ 0 ∷ 0 ∷ []))
    -- inputs: txid, index, 00, sequence; an absent sequence is ffffffff
    ∷ is (transaction (reporting None 2 0)
    (input (bytes (5 ∷ [])) (bytes (6 ∷ [])) (bytes (7 ∷ [])) ∷ input (bytes (8 ∷ [])) (bytes (9 ∷ [])) missing ∷ []) [] [])
    (writes (2 ∷ 0 ∷ 0 ∷ 0 ∷ 2 ∷ 5 ∷ 6 ∷ 0 ∷ 7 ∷ 8 ∷ 9 ∷ 0 ∷ 0xff ∷ 0xff ∷ 0xff ∷ 0xff ∷ 0 ∷ 0 ∷ 0 ∷ 0 ∷ 0 ∷ []))
    -- outputs: amount, script length, script
    ∷ is (transaction (reporting None 0 2)
    [] (record { amount = bytes (5 ∷ []); script = found (6 ∷ 7 ∷ []) } ∷ record { amount = bytes (8 ∷ []); script = found [] } ∷ []) [])
    (writes (2 ∷ 0 ∷ 0 ∷ 0 ∷ 0 ∷ 2 ∷ 5 ∷ 2 ∷ 6 ∷ 7 ∷ 8 ∷ 0 ∷ 0 ∷ 0 ∷ 0 ∷ 0 ∷ []))
    -- a script set, one of 04 before one set
    ∷ is (transaction (reporting None 0 1) [] (record { amount = bytes (5 ∷ []); script = absent } ∷ []) (entry 7))
    (writes (2 ∷ 0 ∷ 0 ∷ 0 ∷ 0 ∷ 1 ∷ 5 ∷ 34 ∷ (taproot_script 7 ++ (0 ∷ 0 ∷ 0 ∷ 0 ∷ []))))
    ∷ is (transaction (reporting None 0 2) [] (record { amount = bytes (5 ∷ []); script = found (6 ∷ []) } ∷ bare ∷ []) (entry 7 ++ entry 8))
    (writes (2 ∷ 0 ∷ 0 ∷ 0 ∷ 0 ∷ 2 ∷ 5 ∷ 1 ∷ 6 ∷ 34 ∷ (taproot_script 8 ++ (0 ∷ 0 ∷ 0 ∷ 0 ∷ []))))
    -- the lock time: the fallback, a height before it
    ∷ is (transaction (reporting (Some 0x0403_0201) 0 0) [] [] []) (writes (2 ∷ 0 ∷ 0 ∷ 0 ∷ 0 ∷ 0 ∷ 1 ∷ 2 ∷ 3 ∷ 4 ∷ []))
    ∷ is (transaction (reporting (Some 0x0403_0201) 1 0)
    (record { txid = bytes []; index = bytes []; sequence = bytes []; time = missing; height = bytes (5 ∷ 0 ∷ 0 ∷ 0 ∷ []) } ∷ []) [] [])
    (writes (2 ∷ 0 ∷ 0 ∷ 0 ∷ 1 ∷ 0 ∷ 0 ∷ 5 ∷ 0 ∷ 0 ∷ 0 ∷ []))
    -- counts and lengths of 252 and of 253
    ∷ is (transaction (reporting None 252 0) (replicate 252 tiny) [] []) (writes (2 ∷ 0 ∷ 0 ∷ 0 ∷ 252 ∷ (replicate 252 0 ++ (0 ∷ 0 ∷ 0 ∷ 0 ∷ 0 ∷ []))))
    ∷ is (transaction (reporting None 253 0)
    (replicate 253 tiny) [] []) (writes (2 ∷ 0 ∷ 0 ∷ 0 ∷ 0xfd ∷ 253 ∷ 0 ∷ (replicate 253 0 ++ (0 ∷ 0 ∷ 0 ∷ 0 ∷ 0 ∷ []))))
    ∷ is (transaction (reporting None 0 253) [] (replicate 253 tiny_out)
    []) (writes (2 ∷ 0 ∷ 0 ∷ 0 ∷ 0 ∷ 0xfd ∷ 253 ∷ 0 ∷ (replicate 253 0 ++ (0 ∷ 0 ∷ 0 ∷ 0 ∷ []))))
    ∷ is (transaction (reporting None 0 1) [] (record { amount = bytes []; script = found (replicate 252 6) } ∷ []) [])
    (writes (2 ∷ 0 ∷ 0 ∷ 0 ∷ 0 ∷ 1 ∷ 252 ∷ (replicate 252 6 ++ (0 ∷ 0 ∷ 0 ∷ 0 ∷ []))))
    ∷ is (transaction (reporting None 0 1) [] (record { amount = bytes []; script = found (replicate 253 6) } ∷ []) [])
    (writes (2 ∷ 0 ∷ 0 ∷ 0 ∷ 0 ∷ 1 ∷ 0xfd ∷ 253 ∷ 0 ∷ (replicate 253 6 ++ (0 ∷ 0 ∷ 0 ∷ 0 ∷ []))))
    ∷ []

-- so a transaction is laid out
pub transaction_bytes : Hold layouts
unfolding computes layouts
transaction_bytes = refl

-- an output that has nothing to write
abbrev hollow : Out
hollow = record { amount = missing; script = absent }

-- fields that are missing or of a wrong length, and which comes first: the lock, inputs in order, outputs in order, of an output the amount
unfoldable pub lacks : List (Row Tx)
lacks =
    is (transaction (reporting None 1 0) (input missing (bytes []) (bytes []) ∷ []) [] []) (refuses BadValue)
    ∷ is (transaction (reporting None 1 0) (input misfit (bytes []) (bytes []) ∷ []) [] []) (refuses BadValue)
    ∷ is (transaction (reporting None 1 0) (input (bytes []) missing (bytes []) ∷ []) [] []) (refuses BadValue)
    ∷ is (transaction (reporting None 1 0) (input (bytes []) misfit (bytes []) ∷ []) [] []) (refuses BadValue)
    ∷ is (transaction (reporting None 1 0) (input (bytes []) (bytes []) misfit ∷ []) [] []) (refuses BadValue)
    ∷ is (transaction (reporting None 2 0) (tiny ∷ input missing (bytes []) (bytes []) ∷ []) [] []) (refuses BadValue)
    ∷ is (transaction (reporting None 0 1) [] (record { amount = missing; script = found [] } ∷ []) []) (refuses BadValue)
    ∷ is (transaction (reporting None 0 1) [] (record { amount = misfit; script = found [] } ∷ []) []) (refuses BadValue)
    ∷ is (transaction (reporting None 0 1) [] (bare ∷ []) []) (refuses MissingOutputScript)
    ∷ is (transaction (reporting None 0 1) [] (bare ∷ []) (replicate 35 0)) (refuses MissingOutputScript)
    ∷ is (transaction (reporting None 0 1) [] (bare ∷ []) (2 ∷ taproot_script 7)) (refuses MissingOutputScript)
    ∷ is (transaction (reporting None 0 1) [] (hollow ∷ []) []) (refuses BadValue)
    ∷ is (transaction (reporting None 0 2) [] (bare ∷ hollow ∷ []) []) (refuses MissingOutputScript)
    ∷ is (transaction (reporting None 0 2) [] (tiny_out ∷ bare ∷ []) []) (refuses MissingOutputScript)
    ∷ is (transaction (reporting None 1 1) (input missing (bytes []) (bytes []) ∷ []) (bare ∷ []) []) (refuses BadValue)
    -- the lock's refusals are 7
    ∷ is (transaction (reporting None 1 1) (record {
      txid = bytes [];
      index = bytes [];
      sequence = bytes [];
      time = bytes (5 ∷ 0 ∷ 0 ∷ 0 ∷ []);
      height = missing;
    } ∷ []) (bare ∷ []) []) (refuses BadValue)
    ∷ is (transaction (reporting None 1 1)
    (record { txid = bytes []; index = bytes []; sequence = bytes []; time = misfit; height = missing } ∷ []) (bare ∷ []) []) (refuses BadValue)
    ∷ []

-- so a transaction is refused
pub transaction_lacks : Hold lacks
unfolding computes lacks
transaction_lacks = refl

-- an input that a file shows
abbrev shown_in : View
shown_in = shows (pair_of 0x0e (replicate 32 0x11) ∷ pair_of 0x0f (1 ∷ 0 ∷ 0 ∷ 0 ∷ []) ∷ pair_of 0x10 (0xfe ∷ 0xff ∷ 0xff ∷ 0xff ∷ []) ∷ [])

-- its bytes in the transaction
abbrev in_bytes : List ℕ
in_bytes = replicate 32 0x11 ++ (1 ∷ 0 ∷ 0 ∷ 0 ∷ 0 ∷ 0xfe ∷ 0xff ∷ 0xff ∷ 0xff ∷ [])

-- the call, on what maps show
unfoldable pub calls : List View → ℕ → ℕ → State → List ℕ → List ℕ → ToldOut
unfolding computes views
calls vs n m t T B = told_tx_out (unsigned_tx_def (views vs) (reporting None n m) t T B)

-- the transaction of an input and an output with a script: 61 bytes
abbrev tx61 : List ℕ
tx61 = 2 ∷ 0 ∷ 0 ∷ 0 ∷ 1 ∷ (in_bytes ++ (1 ∷ 0xe8 ∷ 3 ∷ 0 ∷ 0 ∷ 0 ∷ 0 ∷ 0 ∷ 0 ∷ 1 ∷ 0x51 ∷ 0 ∷ 0 ∷ 0 ∷ 0 ∷ []))

-- that of no input and an output whose script is set: 53 bytes
abbrev tx53 : List ℕ
tx53 = 2 ∷ 0 ∷ 0 ∷ 0 ∷ 0 ∷ 1 ∷ 0xd0 ∷ 7 ∷ 0 ∷ 0 ∷ 0 ∷ 0 ∷ 0 ∷ 0 ∷ 34 ∷ (taproot_script 7 ++ (0 ∷ 0 ∷ 0 ∷ 0 ∷ []))

-- whole calls: the length and the state are told, bytes behind stay, and a refusal leaves the buffer
unfoldable pub whole : List (Row ToldOut)
whole =
    is (calls (shows [] ∷ shown_in ∷ plain_out ∷ []) 1 1 fresh [] (replicate 61 9)) (told_left (told 0 (nat 61 ∷ flag false ∷ flag true ∷ [])) tx61)
    ∷ is (calls (shows [] ∷ shown_in ∷ plain_out ∷ []) 1 1 fresh [] (replicate 63 9))
    (told_left (told 0 (nat 61 ∷ flag false ∷ flag true ∷ [])) (tx61 ++ (9 ∷ 9 ∷ [])))
    -- a second transaction, and one after scripts were set
    ∷ is (calls (shows [] ∷ shown_in ∷ plain_out ∷ []) 1 1 (record { set = false; written = true }) [] (replicate 61 9))
    (told_left (told 0 (nat 61 ∷ flag false ∷ flag true ∷ [])) tx61)
    ∷ is (calls (shows [] ∷ silent_out ∷ []) 0 1 served (entry 7) (replicate 54 9))
    (told_left (told 0 (nat 53 ∷ flag true ∷ flag true ∷ [])) (tx53 ++ (9 ∷ [])))
    ∷ is (calls (shows [] ∷ silent_out ∷ []) 0 1 (record { set = true; written = true }) (entry 7) (replicate 53 9))
    (told_left (told 0 (nat 53 ∷ flag true ∷ flag true ∷ [])) tx53)
    -- a table that was not set counts for nothing
    ∷ is (calls (shows [] ∷ silent_out ∷ []) 0 1 fresh (entry 7) (replicate 53 9)) (told_left (told 17 []) (replicate 53 9))
    ∷ is (calls (shows [] ∷ []) 0 0 fresh (9 ∷ []) (replicate 10 9))
    (told_left (told 0 (nat 10 ∷ flag false ∷ flag true ∷ [])) (2 ∷ 0 ∷ 0 ∷ 0 ∷ 0 ∷ 0 ∷ 0 ∷ 0 ∷ 0 ∷ 0 ∷ []))
    -- an unfit map, whichever it is, before all else
    ∷ is (calls (hides BadIndex ∷ shown_in ∷ plain_out ∷ []) 1 1 fresh [] (9 ∷ [])) (told_left (told 24 []) (9 ∷ []))
    ∷ is (calls (shows [] ∷ hides BadIndex ∷ plain_out ∷ []) 1 1 fresh [] (9 ∷ [])) (told_left (told 24 []) (9 ∷ []))
    ∷ is (calls (shows [] ∷ shows [] ∷ hides BadIndex ∷ []) 1 1 fresh [] (9 ∷ [])) (told_left (told 24 []) (9 ∷ []))
    -- an unfit script table before a field that is missing
    ∷ is (calls (shows [] ∷ shows [] ∷ silent_out ∷ []) 1 1 served (replicate 35 0) (replicate 70 9)) (told_left (told 24 []) (replicate 70 9))
    ∷ is (calls (shows [] ∷ silent_out ∷ []) 0 1 served [] (replicate 70 9)) (told_left (told 24 []) (replicate 70 9))
    ∷ is (calls (shows [] ∷ shown_in ∷ plain_out ∷ []) 1 1 served (entry 7) (replicate 70 9)) (told_left (told 24 []) (replicate 70 9))
    -- a missing field and a missing script before the buffer's room
    ∷ is (calls (shows [] ∷ shows [] ∷ plain_out ∷ []) 1 1 fresh [] []) (told_left (told 7 []) [])
    ∷ is (calls (shows [] ∷ shown_in ∷ silent_out ∷ []) 1 1 fresh [] []) (told_left (told 17 []) [])
    -- one byte short
    ∷ is (calls (shows [] ∷ shown_in ∷ plain_out ∷ []) 1 1 fresh [] (replicate 60 9)) (told_left (told 25 []) (replicate 60 9))
    ∷ is (calls (shows [] ∷ silent_out ∷ []) 0 1 served (entry 7) (replicate 52 9)) (told_left (told 25 []) (replicate 52 9))
    ∷ is (calls (shows [] ∷ []) 0 0 fresh [] []) (told_left (told 25 []) [])
    ∷ []

-- so the call answers
pub transaction_call : Hold whole
unfolding calls whole
transaction_call = refl
