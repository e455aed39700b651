-- What the paper says of each case of an answer: its number, 0 where nothing is refused, and its values.
use Rattle.std.specs.Prelude.{ℕ, Bool, List, [], ◌∷◌, ℤ, pos, Ok, Err, Some, None}
use Rattle.format.specs.Refusals.{number_of}
use Rattle.format.specs.Parse.{ParseOut, out}
use Rattle.format.specs.Scripts.{SetOut, set_out_def}
use Rattle.format.specs.Transaction.{TxOut, tx_out}
use Rattle.format.specs.declared.PsbtError.TheVariants.{BadValue}
use Rattle.format.specs.Answers.{Decided, Listing, Looked, Maybe, Nth, Numbered, OutputScript, ScriptsSet, UnsignedTx, Utxo}
use Rattle.format.specs.declared.Parsed.{Parsed}
use Rattle.format.specs.declared.Parsed.TheVariants as P
use Rattle.format.specs.declared.Lock.TheVariants as D
use Rattle.format.specs.declared.ScriptPlace.TheVariants as O

-- a value: none, a number, or a yes or no
pub data Value : Type 0 where
  none : Value
  int : ℤ → Value
  flag : Bool → Value

-- a number and values
pub data Told : Type 0 where
  told : ℕ → List Value → Told

-- a natural number as a value
abbrev pub nat : ℕ → Value
nat n = int (pos n)

-- a number that may be absent
unfoldable pub maybe_value : Maybe → Value
maybe_value None = none
maybe_value (Some n) = nat n

-- of a parse: version, fallback, modifiable, both counts and the entries used; of a refusal the entries used
unfoldable pub told_parsed : Parsed → Told
told_parsed (P.Accepted s p m) =
    told 0 (int s.tx_version ∷ maybe_value s.fallback_locktime ∷ maybe_value s.tx_modifiable
    ∷ nat s.inputs ∷ nat s.outputs ∷ nat p ∷ nat m ∷ [])
told_parsed (P.Refused e p m) = told (number_of e) (nat p ∷ nat m ∷ [])

-- of a lookup: start and length
unfoldable pub told_looked : Looked → Told
told_looked (Err e) = told (number_of e) []
told_looked (Ok None) = told 0 []
told_looked (Ok (Some p)) = told 0 (nat p.start ∷ nat p.len ∷ [])

-- of a number
unfoldable pub told_numbered : Numbered → Told
told_numbered (Err e) = told (number_of e) []
told_numbered (Ok None) = told 0 []
told_numbered (Ok (Some n)) = told 0 (nat n ∷ [])

-- of a listing: first pair and count
unfoldable pub told_listing : Listing → Told
told_listing (Err e) = told (number_of e) []
told_listing (Ok l) = told 0 (nat l.first ∷ nat l.count ∷ [])

-- of a pair: key start, key length, value start, value length
unfoldable pub told_nth : Nth → Told
told_nth (Err e) = told (number_of e) []
told_nth (Ok e) = told 0 (nat e.key ∷ nat e.klen ∷ nat e.value ∷ nat e.vlen ∷ [])

-- of a witness UTXO: amount, script start, script length
unfoldable pub told_utxo : Utxo → Told
told_utxo (Err e) = told (number_of e) []
told_utxo (Ok None) = told 0 []
told_utxo (Ok (Some u)) = told 0 (nat u.amount ∷ nat u.start ∷ nat u.len ∷ [])

-- what decided the lock: 0 the fallback, 1 a height, 2 a time; of a refusal by 7 the rule: 1 both
-- kinds, 2 a height too great, 3 a time too small, 4 a wrong size
unfoldable pub told_lock : Decided → Told
told_lock (Err e) = told (number_of e) []
told_lock (Ok (D.Fallback n)) = told 0 (nat 0 ∷ nat n ∷ [])
told_lock (Ok (D.Height n i)) = told 0 (nat 1 ∷ nat n ∷ nat i ∷ [])
told_lock (Ok (D.Time n i)) = told 0 (nat 2 ∷ nat n ∷ nat i ∷ [])
told_lock (Ok (D.BothKinds h t)) = told (number_of BadValue) (nat 1 ∷ nat h ∷ nat t ∷ [])
told_lock (Ok (D.HeightTooGreat n i)) = told (number_of BadValue) (nat 2 ∷ nat n ∷ nat i ∷ [])
told_lock (Ok (D.TimeTooSmall n i)) = told (number_of BadValue) (nat 3 ∷ nat n ∷ nat i ∷ [])
told_lock (Ok (D.Malformed i)) = told (number_of BadValue) (nat 4 ∷ nat i ∷ [])

-- of the setter: whether scripts are set, whether a transaction was written
unfoldable pub told_set : ScriptsSet → Told
told_set (Err e) = told (number_of e) []
told_set (Ok t) = told 0 (flag t.set ∷ flag t.written ∷ [])

-- of a transaction: its length, and the state
unfoldable pub told_tx : UnsignedTx → Told
told_tx (Err e) = told (number_of e) []
told_tx (Ok w) = told 0 (nat w.len ∷ flag w.state.set ∷ flag w.state.written ∷ [])

-- of an output's script: 0 in the file, 1 in the script table, start and length
unfoldable pub told_script : OutputScript → Told
told_script (Err e) = told (number_of e) []
told_script (Ok None) = told 0 []
told_script (Ok (Some (O.InFile s n))) = told 0 (nat 0 ∷ nat s ∷ nat n ∷ [])
told_script (Ok (Some (O.InTable s n))) = told 0 (nat 1 ∷ nat s ∷ nat n ∷ [])

-- an answer as told, with lent memory as it is left: two tables of a parse; the script table; the buffer
pub data ToldParse : Type 0 where
  told_with : Told → List ℕ → List ℕ → ToldParse

-- of a parse with both its tables
unfoldable pub told_parse : ParseOut → ToldParse
told_parse (out r P M) = told_with (told_parsed r) P M

-- an answer as told, with one buffer
pub data ToldOut : Type 0 where
  told_left : Told → List ℕ → ToldOut

-- of the setter with the script table
unfoldable pub told_set_out : SetOut → ToldOut
told_set_out (set_out_def r T) = told_left (told_set r) T

-- of a transaction with its buffer
unfoldable pub told_tx_out : TxOut → ToldOut
told_tx_out (tx_out r B) = told_left (told_tx r) B
