-- What is told of an answer tells its cases apart: each answer can be had back from its number and values.
use Prim.Native.Nat.{ℕ}
use mathlib.Core.Path.{◌≡◌, refl, sym, ◌∙◌, ap}
use mathlib.Core.Bool.{Bool, false}
use mathlib.Core.List.{List, [], ◌∷◌}
use lib.Dec.{eqb}
use lib.IntN.{ℤ, pos, negsuc}
use lib.ListN.{length, get_or}
use Rattle.format.specs.Refusals.{number_of}
use Rattle.format.specs.Tests.{pick}
use Rattle.format.specs.Parse.{ParseOut, out}
use Rattle.format.specs.Scripts.{SetOut, set_out_def}
use Rattle.format.specs.Transaction.{TxOut, tx_out}
use Rattle.format.specs.Told.{Value, none, int, flag, Told, told, maybe_value, told_parsed, told_looked, told_numbered, told_listing}
use Rattle.format.specs.Told.{told_nth, told_utxo, told_lock, told_set, told_tx, told_script, told_parse, told_set_out, told_tx_out}
use Rattle.format.specs.declared.PsbtError.{PsbtError}
use Rattle.format.specs.declared.PsbtError.TheVariants.{InvalidMagic, UnexpectedEof, InvalidCompactSize, MapTerminatorMissing, DuplicateKey}
use Rattle.format.specs.declared.PsbtError.TheVariants.{UnsortedKeys, BadValue, MissingCounts, MissingOutputIndex, MissingRedeemScript}
use Rattle.format.specs.declared.PsbtError.TheVariants.{MissingWitnessScript, CountsTooLarge, NotAllowed, OutOfRange, UnknownOutputType}
use Rattle.format.specs.declared.PsbtError.TheVariants.{Unsupported, MissingOutputScript, InvalidSilentPayment, InvalidOutputScripts}
use Rattle.format.specs.declared.PsbtError.TheVariants.{InvalidSighashType, TooLong, PairsFull, MapsFull, BadIndex, NoRoom}
use Rattle.format.specs.Answers.{part_at, pairs_at, utxo_with, wrote_tx, passed, Decided, Listing, Looked}
use Rattle.format.specs.Answers.{Maybe, Nth, Numbered, OutputScript, Ruled, ScriptsSet, UnsignedTx, Utxo}
use Rattle.std.specs.Prelude.{Ok, Err, Some, None}
use Rattle.format.specs.declared.Parsed.{Parsed}
use Rattle.format.specs.declared.Parsed.TheVariants as P
use Rattle.format.specs.declared.Lock.TheVariants as D
use Rattle.format.specs.declared.ScriptPlace.TheVariants as O

-- the refusal of a number, 0 for none
errors : List Ruled
errors =
    passed ∷ Err InvalidMagic ∷ Err UnexpectedEof ∷ Err InvalidCompactSize ∷ Err MapTerminatorMissing
    ∷ Err DuplicateKey ∷ Err UnsortedKeys ∷ Err BadValue ∷ Err MissingCounts ∷ Err MissingOutputIndex
    ∷ Err MissingRedeemScript ∷ Err MissingWitnessScript ∷ Err CountsTooLarge ∷ Err NotAllowed
    ∷ Err OutOfRange ∷ Err UnknownOutputType ∷ Err Unsupported ∷ Err MissingOutputScript
    ∷ Err InvalidSilentPayment ∷ Err InvalidOutputScripts ∷ Err InvalidSighashType ∷ Err TooLong
    ∷ Err PairsFull ∷ Err MapsFull ∷ Err BadIndex ∷ Err NoRoom ∷ []

error_of : ℕ → Ruled
error_of n = get_or errors n passed

error_of_lem : (e : PsbtError) → error_of (number_of e) ≡ Err e
unfolding error_of errors number_of
error_of_lem InvalidMagic = refl
error_of_lem UnexpectedEof = refl
error_of_lem InvalidCompactSize = refl
error_of_lem MapTerminatorMissing = refl
error_of_lem DuplicateKey = refl
error_of_lem UnsortedKeys = refl
error_of_lem BadValue = refl
error_of_lem MissingCounts = refl
error_of_lem MissingOutputIndex = refl
error_of_lem MissingRedeemScript = refl
error_of_lem MissingWitnessScript = refl
error_of_lem CountsTooLarge = refl
error_of_lem NotAllowed = refl
error_of_lem OutOfRange = refl
error_of_lem UnknownOutputType = refl
error_of_lem Unsupported = refl
error_of_lem MissingOutputScript = refl
error_of_lem InvalidSilentPayment = refl
error_of_lem InvalidOutputScripts = refl
error_of_lem InvalidSighashType = refl
error_of_lem TooLong = refl
error_of_lem PairsFull = refl
error_of_lem MapsFull = refl
error_of_lem BadIndex = refl
error_of_lem NoRoom = refl

-- a value read back
int_of : Value → ℤ
int_of none = pos 0
int_of (int z) = z
int_of (flag b) = pos 0

nat_of : ℤ → ℕ
nat_of (pos n) = n
nat_of (negsuc n) = 0

flag_of : Value → Bool
flag_of none = false
flag_of (int z) = false
flag_of (flag b) = b

maybe_of : Value → Maybe
maybe_of none = None
maybe_of (int z) = Some (nat_of z)
maybe_of (flag b) = None

maybe_of_lem : (m : Maybe) → maybe_of (maybe_value m) ≡ m
unfolding maybe_of maybe_value nat_of
maybe_of_lem None = refl
maybe_of_lem (Some n) = refl

int_at : List Value → ℕ → ℤ
int_at vs i = int_of (get_or vs i none)

nat_at : List Value → ℕ → ℕ
nat_at vs i = nat_of (int_at vs i)

flag_at : List Value → ℕ → Bool
flag_at vs i = flag_of (get_or vs i none)

-- an answer that can be had back from what is told of it is known by that
known_by : {A : Type 0} (tell : A → Told) (back : Told → A) → ((a : A) → back (tell a) ≡ a) → (a b : A) → tell a ≡ tell b → a ≡ b
known_by tell back r a b h = sym (r a) ∙ ap back h ∙ r b

-- each answer in turn
looked_by : Ruled → List Value → Looked
looked_by (Err e) vs = Err e
looked_by (Ok u) vs = pick (eqb (length vs) 0) (Ok None) (Ok (Some (part_at (nat_at vs 0) (nat_at vs 1))))

looked_of : Told → Looked
looked_of (told n vs) = looked_by (error_of n) vs

looked_of_lem : (a : Looked) → looked_of (told_looked a) ≡ a
unfolding told_looked looked_of looked_by error_of errors int_of nat_of flag_of int_at nat_at flag_at
looked_of_lem (Err e) = rw (error_of_lem e)
looked_of_lem (Ok None) = refl
looked_of_lem (Ok (Some p)) = refl

pub looked_one : (a b : Looked) → told_looked a ≡ told_looked b → a ≡ b
looked_one = known_by told_looked looked_of looked_of_lem

numbered_by : Ruled → List Value → Numbered
numbered_by (Err e) vs = Err e
numbered_by (Ok u) vs = pick (eqb (length vs) 0) (Ok None) (Ok (Some (nat_at vs 0)))

numbered_of_lem : Told → Numbered
numbered_of_lem (told n vs) = numbered_by (error_of n) vs

numbered_of : (a : Numbered) → numbered_of_lem (told_numbered a) ≡ a
unfolding told_numbered numbered_of_lem numbered_by error_of errors int_of nat_of flag_of int_at nat_at flag_at
numbered_of (Err e) = rw (error_of_lem e)
numbered_of (Ok None) = refl
numbered_of (Ok (Some n)) = refl

pub numbered_one : (a b : Numbered) → told_numbered a ≡ told_numbered b → a ≡ b
numbered_one = known_by told_numbered numbered_of_lem numbered_of

listing_by : Ruled → List Value → Listing
listing_by (Err e) vs = Err e
listing_by (Ok u) vs = Ok (pairs_at (nat_at vs 0) (nat_at vs 1))

listing_of : Told → Listing
listing_of (told n vs) = listing_by (error_of n) vs

listing_of_lem : (a : Listing) → listing_of (told_listing a) ≡ a
unfolding told_listing listing_of listing_by error_of errors int_of nat_of flag_of int_at nat_at flag_at
listing_of_lem (Err e) = rw (error_of_lem e)
listing_of_lem (Ok l) = refl

pub listing_one : (a b : Listing) → told_listing a ≡ told_listing b → a ≡ b
listing_one = known_by told_listing listing_of listing_of_lem

nth_by : Ruled → List Value → Nth
nth_by (Err e) vs = Err e
nth_by (Ok u) vs = Ok (record { key = nat_at vs 0; klen = nat_at vs 1; value = nat_at vs 2; vlen = nat_at vs 3 })

nth_of : Told → Nth
nth_of (told n vs) = nth_by (error_of n) vs

nth_of_lem : (a : Nth) → nth_of (told_nth a) ≡ a
unfolding told_nth nth_of nth_by error_of errors int_of nat_of flag_of int_at nat_at flag_at
nth_of_lem (Err e) = rw (error_of_lem e)
nth_of_lem (Ok x) = refl

pub nth_one : (a b : Nth) → told_nth a ≡ told_nth b → a ≡ b
nth_one = known_by told_nth nth_of nth_of_lem

utxo_by : Ruled → List Value → Utxo
utxo_by (Err e) vs = Err e
utxo_by (Ok u) vs = pick (eqb (length vs) 0) (Ok None) (Ok (Some (utxo_with (nat_at vs 0) (nat_at vs 1) (nat_at vs 2))))

utxo_of : Told → Utxo
utxo_of (told n vs) = utxo_by (error_of n) vs

utxo_of_lem : (a : Utxo) → utxo_of (told_utxo a) ≡ a
unfolding told_utxo utxo_of utxo_by error_of errors int_of nat_of flag_of int_at nat_at flag_at
utxo_of_lem (Err e) = rw (error_of_lem e)
utxo_of_lem (Ok None) = refl
utxo_of_lem (Ok (Some u)) = refl

pub utxo_one : (a b : Utxo) → told_utxo a ≡ told_utxo b → a ≡ b
utxo_one = known_by told_utxo utxo_of utxo_of_lem

set_by : Ruled → List Value → ScriptsSet
set_by (Err e) vs = Err e
set_by (Ok u) vs = Ok (record { set = flag_at vs 0; written = flag_at vs 1 })

set_of : Told → ScriptsSet
set_of (told n vs) = set_by (error_of n) vs

set_of_lem : (a : ScriptsSet) → set_of (told_set a) ≡ a
unfolding told_set set_of set_by error_of errors int_of nat_of flag_of int_at nat_at flag_at
set_of_lem (Err e) = rw (error_of_lem e)
set_of_lem (Ok t) = refl

pub set_one : (a b : ScriptsSet) → told_set a ≡ told_set b → a ≡ b
set_one = known_by told_set set_of set_of_lem

tx_by : Ruled → List Value → UnsignedTx
tx_by (Err e) vs = Err e
tx_by (Ok u) vs = Ok (wrote_tx (nat_at vs 0) (record { set = flag_at vs 1; written = flag_at vs 2 }))

tx_of : Told → UnsignedTx
tx_of (told n vs) = tx_by (error_of n) vs

tx_of_lem : (a : UnsignedTx) → tx_of (told_tx a) ≡ a
unfolding told_tx tx_of tx_by error_of errors int_of nat_of flag_of int_at nat_at flag_at
tx_of_lem (Err e) = rw (error_of_lem e)
tx_of_lem (Ok w) = refl

pub tx_one : (a b : UnsignedTx) → told_tx a ≡ told_tx b → a ≡ b
tx_one = known_by told_tx tx_of tx_of_lem

script_by : Ruled → List Value → OutputScript
script_by (Err e) vs = Err e
script_by (Ok u) vs =
    pick (eqb (length vs) 0) (Ok None) (pick (eqb (nat_at vs 0) 0) (Ok (Some (O.InFile (nat_at vs 1) (nat_at vs 2))))
    (Ok (Some (O.InTable (nat_at vs 1) (nat_at vs 2)))))

script_of : Told → OutputScript
script_of (told n vs) = script_by (error_of n) vs

script_of_lem : (a : OutputScript) → script_of (told_script a) ≡ a
unfolding told_script script_of script_by error_of errors int_of nat_of flag_of int_at nat_at flag_at
script_of_lem (Err e) = rw (error_of_lem e)
script_of_lem (Ok None) = refl
script_of_lem (Ok (Some (O.InFile s n))) = refl
script_of_lem (Ok (Some (O.InTable s n))) = refl

pub script_one : (a b : OutputScript) → told_script a ≡ told_script b → a ≡ b
script_one = known_by told_script script_of script_of_lem

lock_rule : PsbtError → List Value → Decided
lock_rule e [] = Err e
lock_rule e (v ∷ vs) =
    pick (eqb (nat_of (int_of v)) 1) (Ok (D.BothKinds (nat_at vs 0) (nat_at vs 1)))
    (pick (eqb (nat_of (int_of v)) 2) (Ok (D.HeightTooGreat (nat_at vs 0) (nat_at vs 1)))
    (pick (eqb (nat_of (int_of v)) 3) (Ok (D.TimeTooSmall (nat_at vs 0) (nat_at vs 1))) (Ok (D.Malformed (nat_at vs 0)))))

lock_by : Ruled → List Value → Decided
lock_by (Err e) vs = lock_rule e vs
lock_by (Ok u) vs = pick (eqb (nat_at vs 0) 0) (Ok (D.Fallback (nat_at vs 1)))
    (pick (eqb (nat_at vs 0) 1) (Ok (D.Height (nat_at vs 1) (nat_at vs 2))) (Ok (D.Time (nat_at vs 1) (nat_at vs 2))))

lock_of : Told → Decided
lock_of (told n vs) = lock_by (error_of n) vs

lock_of_lem : (a : Decided) → lock_of (told_lock a) ≡ a
unfolding told_lock lock_of lock_by lock_rule error_of errors number_of int_of nat_of flag_of int_at nat_at flag_at
lock_of_lem (Err e) = rw (error_of_lem e)
lock_of_lem (Ok (D.Height n i)) = refl
lock_of_lem (Ok (D.Time n i)) = refl
lock_of_lem (Ok (D.Fallback n)) = refl
lock_of_lem (Ok (D.BothKinds h t)) = refl
lock_of_lem (Ok (D.HeightTooGreat n i)) = refl
lock_of_lem (Ok (D.TimeTooSmall n i)) = refl
lock_of_lem (Ok (D.Malformed i)) = refl

pub lock_one : (a b : Decided) → told_lock a ≡ told_lock b → a ≡ b
lock_one = known_by told_lock lock_of lock_of_lem

parsed_by : Ruled → List Value → Parsed
parsed_by (Err e) vs = P.Refused e (nat_at vs 0) (nat_at vs 1)
parsed_by (Ok u) vs =
    P.Accepted (record {
      tx_version = int_at vs 0;
      fallback_locktime = maybe_of (get_or vs 1 none);
      tx_modifiable = maybe_of (get_or vs 2 none);
      inputs = nat_at vs 3;
      outputs = nat_at vs 4;
    })
    (nat_at vs 5) (nat_at vs 6)

parsed_of : Told → Parsed
parsed_of (told n vs) = parsed_by (error_of n) vs

parsed_of_lem : (a : Parsed) → parsed_of (told_parsed a) ≡ a
unfolding told_parsed parsed_of parsed_by error_of errors int_of nat_of int_at nat_at
parsed_of_lem (P.Refused e p m) = rw (error_of_lem e)
parsed_of_lem (P.Accepted s p m) = rw (maybe_of_lem s.fallback_locktime, maybe_of_lem s.tx_modifiable)

pub parsed_one : (a b : Parsed) → told_parsed a ≡ told_parsed b → a ≡ b
parsed_one = known_by told_parsed parsed_of parsed_of_lem

-- with lent memory: any two outcomes of which the same is told are one
pub parse_out_one : (a b : ParseOut) → told_parse a ≡ told_parse b → a ≡ b
unfolding told_parse
parse_out_one (out r P M) (out r' P' M') h =
    let x : told_parsed r ≡ told_parsed r' = cc in
    let k = parsed_one r r' x in
    cc

pub set_out_one : (a b : SetOut) → told_set_out a ≡ told_set_out b → a ≡ b
unfolding told_set_out
set_out_one (set_out_def r T) (set_out_def r' T') h =
    let x : told_set r ≡ told_set r' = cc in
    let k = set_one r r' x in
    cc

pub tx_out_one : (a b : TxOut) → told_tx_out a ≡ told_tx_out b → a ≡ b
unfolding told_tx_out
tx_out_one (tx_out r B) (tx_out r' B') h =
    let x : told_tx r ≡ told_tx r' = cc in
    let k = tx_one r r' x in
    cc
