-- Computed examples of what is told: each case of each answer has its number and its values.
use Rattle.std.specs.Prelude.{refl, true, false, List, [], ◌∷◌, pos, negsuc, Ok, Err, Some, None}
use Rattle.format.specs.Rows.{Row, is, Hold}
use Rattle.format.specs.Refusals.{number_of}
use Rattle.format.specs.Parse.{out}
use Rattle.format.specs.Scripts.{set_out_def}
use Rattle.format.specs.Transaction.{tx_out}
use Rattle.format.specs.Told.{Told, told, none, int, flag, nat, maybe_value, told_parsed, told_looked, told_numbered}
use Rattle.format.specs.Told.{told_listing, told_nth, told_utxo, told_lock, told_set, told_tx, told_script, ToldParse}
use Rattle.format.specs.Told.{told_with, told_parse, ToldOut, told_left, told_set_out, told_tx_out}
use Rattle.format.specs.declared.PsbtError.TheVariants.{InvalidMagic, DuplicateKey, BadValue, OutOfRange, MissingOutputScript}
use Rattle.format.specs.declared.PsbtError.TheVariants.{InvalidOutputScripts, PairsFull, BadIndex, NoRoom}
use Rattle.format.specs.Answers.{part_at, pairs_at, utxo_with, wrote_tx}
use Rattle.format.specs.declared.Parsed.TheVariants as P
use Rattle.format.specs.declared.Lock.TheVariants as D
use Rattle.format.specs.declared.ScriptPlace.TheVariants as O

-- a parse: version, fallback, modifiable byte, inputs, outputs, pairs and maps used; absent is not 0; a refusal with the entries used
unfoldable pub parses : List (Row Told)
parses =
    is (told_parsed (P.Accepted (record { tx_version = pos 2; fallback_locktime = Some 3; tx_modifiable = Some 4; inputs = 5; outputs = 6 }) 7 8))
    (told 0 (int (pos 2) ∷ nat 3 ∷ nat 4 ∷ nat 5 ∷ nat 6 ∷ nat 7 ∷ nat 8 ∷ []))
    ∷ is (told_parsed (P.Accepted (record { tx_version = negsuc 0; fallback_locktime = None; tx_modifiable = Some 0; inputs = 0; outputs = 0 }) 0 1))
    (told 0 (int (negsuc 0) ∷ none ∷ nat 0 ∷ nat 0 ∷ nat 0 ∷ nat 0 ∷ nat 1 ∷ []))
    ∷ is (told_parsed (P.Accepted (record { tx_version = pos 1; fallback_locktime = Some 0; tx_modifiable = None; inputs = 1; outputs = 0 }) 4 2))
    (told 0 (int (pos 1) ∷ nat 0 ∷ none ∷ nat 1 ∷ nat 0 ∷ nat 4 ∷ nat 2 ∷ []))
    ∷ is (told_parsed (P.Refused PairsFull 7 8)) (told 22 (nat 7 ∷ nat 8 ∷ []))
    ∷ is (told_parsed (P.Refused InvalidMagic 0 0)) (told 1 (nat 0 ∷ nat 0 ∷ []))
    ∷ []

-- so a parse is told
pub parses_told : Hold parses
unfolding number_of maybe_value told_parsed parses
parses_told = refl

-- lookups, numbers, listings, pairs and witness UTXOs: absence is 0 without values, a place has two
unfoldable pub lookups : List (Row Told)
lookups =
    is (told_looked (Err BadIndex)) (told 24 [])
    ∷ is (told_looked (Ok None)) (told 0 [])
    ∷ is (told_looked (Ok (Some (part_at 3 0)))) (told 0 (nat 3 ∷ nat 0 ∷ []))
    ∷ is (told_numbered (Err BadValue)) (told 7 [])
    ∷ is (told_numbered (Ok None)) (told 0 [])
    ∷ is (told_numbered (Ok (Some 0))) (told 0 (nat 0 ∷ []))
    ∷ is (told_numbered (Ok (Some 9))) (told 0 (nat 9 ∷ []))
    ∷ is (told_listing (Err OutOfRange)) (told 14 [])
    ∷ is (told_listing (Ok (pairs_at 2 0))) (told 0 (nat 2 ∷ nat 0 ∷ []))
    ∷ is (told_nth (Err OutOfRange)) (told 14 [])
    ∷ is (told_nth (Ok (record { key = 6; klen = 1; value = 8; vlen = 4 }))) (told 0 (nat 6 ∷ nat 1 ∷ nat 8 ∷ nat 4 ∷ []))
    ∷ is (told_utxo (Err BadValue)) (told 7 [])
    ∷ is (told_utxo (Ok None)) (told 0 [])
    ∷ is (told_utxo (Ok (Some (utxo_with 1_000 40 22)))) (told 0 (nat 1_000 ∷ nat 40 ∷ nat 22 ∷ []))
    ∷ []

-- so a lookup is told
pub lookups_told : Hold lookups
unfolding number_of told_looked told_numbered told_listing told_nth told_utxo lookups
lookups_told = refl

-- a lock: 0 the fallback, 1 a height, 2 a time; refused by 7, rules 1 to 4; or a map's refusal
unfoldable pub locks : List (Row Told)
locks =
    is (told_lock (Ok (D.Fallback 9))) (told 0 (nat 0 ∷ nat 9 ∷ []))
    ∷ is (told_lock (Ok (D.Height 8 3))) (told 0 (nat 1 ∷ nat 8 ∷ nat 3 ∷ []))
    ∷ is (told_lock (Ok (D.Time 500_000_000 2))) (told 0 (nat 2 ∷ nat 500_000_000 ∷ nat 2 ∷ []))
    ∷ is (told_lock (Ok (D.BothKinds 1 4))) (told 7 (nat 1 ∷ nat 1 ∷ nat 4 ∷ []))
    ∷ is (told_lock (Ok (D.HeightTooGreat 500_000_000 5))) (told 7 (nat 2 ∷ nat 500_000_000 ∷ nat 5 ∷ []))
    ∷ is (told_lock (Ok (D.TimeTooSmall 6 7))) (told 7 (nat 3 ∷ nat 6 ∷ nat 7 ∷ []))
    ∷ is (told_lock (Ok (D.Malformed 3))) (told 7 (nat 4 ∷ nat 3 ∷ []))
    ∷ is (told_lock (Err BadIndex)) (told 24 [])
    ∷ []

-- so a lock is told
pub locks_told : Hold locks
unfolding number_of told_lock locks
locks_told = refl

-- setter and transaction: the state, and a transaction's length before it; an output's script: 0 in the file, 1 in the script table
unfoldable pub writers : List (Row Told)
writers =
    is (told_set (Err InvalidOutputScripts)) (told 19 [])
    ∷ is (told_set (Ok (record { set = true; written = false }))) (told 0 (flag true ∷ flag false ∷ []))
    ∷ is (told_set (Ok (record { set = false; written = false }))) (told 0 (flag false ∷ flag false ∷ []))
    ∷ is (told_tx (Err MissingOutputScript)) (told 17 [])
    ∷ is (told_tx (Ok (wrote_tx 10 (record { set = false; written = true })))) (told 0 (nat 10 ∷ flag false ∷ flag true ∷ []))
    ∷ is (told_tx (Ok (wrote_tx 61 (record { set = true; written = true })))) (told 0 (nat 61 ∷ flag true ∷ flag true ∷ []))
    ∷ is (told_script (Err OutOfRange)) (told 14 [])
    ∷ is (told_script (Ok None)) (told 0 [])
    ∷ is (told_script (Ok (Some (O.InFile 85 1)))) (told 0 (nat 0 ∷ nat 85 ∷ nat 1 ∷ []))
    ∷ is (told_script (Ok (Some (O.InTable 36 34)))) (told 0 (nat 1 ∷ nat 36 ∷ nat 34 ∷ []))
    ∷ []

-- so they are told
pub writers_told : Hold writers
unfolding number_of told_set told_tx told_script writers
writers_told = refl

-- with lent memory: the script table of the setter, the buffer of a transaction
unfoldable pub left : List (Row ToldOut)
left =
    is (told_set_out (set_out_def (Err NoRoom) (5 ∷ []))) (told_left (told 25 []) (5 ∷ []))
    ∷ is (told_set_out (set_out_def (Ok (record { set = true; written = false })) (5 ∷ 6 ∷ [])))
    (told_left (told 0 (flag true ∷ flag false ∷ [])) (5 ∷ 6 ∷ []))
    ∷ is (told_tx_out (tx_out (Err BadValue) (5 ∷ []))) (told_left (told 7 []) (5 ∷ []))
    ∷ is (told_tx_out (tx_out (Ok (wrote_tx 2 (record { set = false; written = true }))) (5 ∷ 6 ∷ [])))
    (told_left (told 0 (nat 2 ∷ flag false ∷ flag true ∷ [])) (5 ∷ 6 ∷ []))
    ∷ []

-- the pair table before the map table of a parse
unfoldable pub left_by_parse : List (Row ToldParse)
left_by_parse =
    is (told_parse (out (P.Refused DuplicateKey 1 0) (5 ∷ []) (6 ∷ 7 ∷ []))) (told_with (told 5 (nat 1 ∷ nat 0 ∷ [])) (5 ∷ []) (6 ∷ 7 ∷ []))
    ∷ []

-- so lent memory is told
pub memory_told : Hold left
unfolding number_of told_set told_tx told_set_out told_tx_out left
memory_told = refl

-- so are the tables of a parse
pub tables_told : Hold left_by_parse
unfolding number_of told_parsed told_parse left_by_parse
tables_told = refl
