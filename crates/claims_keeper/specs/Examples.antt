-- File F with a height and with a time, computed: the lock over the tables that the parse left, and over others.
use Rattle.std.specs.Prelude.{ℕ, ◌≡◌, refl, true, false, List, [], ◌∷◌, ◌++◌, Ok, Err}
use Rattle.std.proofs.Common.{arith}
use Rattle.std.proofs.Math.ListN.{replicate}
use Rattle.format.specs.Reading.{Verdict, accepted, refused, outcome, reading}
use Rattle.format.specs.Parse.{ParseOut, out, parsed}
use Rattle.format.specs.Tables.{view}
use Rattle.format.specs.Transaction.{TxOut, tx_out, unsigned_tx_def}
use Rattle.format.specs.ExampleFiles.{height, time, script, file_f_with, pairs_e, psbt_e, psbt_f, fresh, tx_e, tx_f}
use Rattle.format.specs.Computed.{computes}
use Rattle.format.specs.declared.PsbtError.TheVariants.{BadValue}
use Rattle.format.specs.declared.Psbt.{Psbt}
use Rattle.format.specs.declared.State.{State}
use Rattle.format.specs.declared.Parsed.TheVariants.{Accepted}
use Rattle.format.specs.Answers.{wrote_tx}
use Rattle.claims_calls.specs.Newer.{ins_of}
use Rattle.claims_lock.specs.Honours.{by_height, FallenTimes}
use Rattle.claims_lock.proofs.Honours.{honours_meets}
use Rattle.claims_keeper.specs.Keeper.{Kept}

-- a lock that meets and honours every input of an accepted file
abbrev pub KeptBy : Verdict → ℕ → Type 0
KeptBy (refused e) n = ⊥
KeptBy (accepted c) n = Kept c n

-- an accepted file whose greatest time is too small
abbrev pub Fallen : Verdict → Type 0
Fallen (refused e) = ⊥
Fallen (accepted c) = FallenTimes (ins_of c)

-- F asking for height 800,000
abbrev pub file_h : List ℕ
file_h = file_f_with [] (height 800_000) script

-- F asking for time 86,400
abbrev pub file_t : List ℕ
file_t = file_f_with [] (time 86_400) script

-- the pair table that the parse of either leaves
abbrev pub table_left : List ℕ
table_left = pairs_e ++ (29 ∷ 1 ∷ 31 ∷ 32 ∷ 64 ∷ 1 ∷ 66 ∷ 4 ∷ 71 ∷ 1 ∷ 73 ∷ 4 ∷ 79 ∷ 1 ∷ 81 ∷ 8 ∷ 90 ∷ 1 ∷ 92 ∷ 1 ∷ [])

-- a map table that gives the input n pairs: the parse of either leaves 3, whatever the table held
abbrev pub maps_with : ℕ → List ℕ
maps_with n = 0 ∷ 4 ∷ 4 ∷ n ∷ 7 ∷ 2 ∷ []

-- a parse into tables that held other words
unfoldable pub parsed_f : List ℕ → ParseOut
parsed_f f = parsed f (replicate 36 9) (maps_with 2)

-- what it leaves
abbrev pub left : ParseOut
left = out (Accepted psbt_f 9 3) table_left (maps_with 3)

-- of the first file
pub parses_h : parsed_f file_h ≡ left
unfolding computes parsed_f
parses_h = refl

-- and of the second
pub parses_t : parsed_f file_t ≡ left
unfolding computes parsed_f
parses_t = refl

-- the transaction of a file over a map table and a report, into a buffer of 61 bytes
unfoldable pub tx_over : List ℕ → List ℕ → Psbt → TxOut
tx_over f M s = unsigned_tx_def (view f table_left M s) s fresh [] (replicate 61 9)

-- a transaction was written
abbrev after : State
after = record { set = false; written = true }

-- over what the parse left: the lock 800,000
pub lock_kept : tx_over file_h (maps_with 3) psbt_f ≡ tx_out (Ok (wrote_tx 61 after)) (tx_f (0x00 ∷ 0x35 ∷ 0x0c ∷ 0x00 ∷ []))
unfolding computes tx_over
lock_kept = refl

-- and for the second file refusal 7
pub clock_refused : tx_over file_t (maps_with 3) psbt_f ≡ tx_out (Err BadValue) (replicate 61 9)
unfolding computes tx_over
clock_refused = refl

-- the lock honours the first file
pub file_kept : KeptBy (reading file_h) 800_000
unfolding computes outcome reading ins_of
file_kept = record {
  met = (honours_meets 800_000 _ (by_height 800_000 refl tt (omega arith) (omega arith)), tt);
  honoured = (by_height 800_000 refl tt (omega arith) (omega arith), tt);
}

-- the greatest time of the second is too small
pub clock_fallen : Fallen (reading file_t)
unfolding computes outcome reading ins_of
clock_fallen = ((86_400, 0, (_, refl, refl)), ((λ n e. omega (arith, e)), tt))

-- with one word of the map table changed all maps are still fit, and the lock is 0
pub word_changed : tx_over file_h (maps_with 2) psbt_f ≡ tx_out (Ok (wrote_tx 61 after)) (tx_f (0 ∷ 0 ∷ 0 ∷ 0 ∷ []))
unfolding computes tx_over
word_changed = refl

-- so it is with the report of E
pub report_changed : tx_over file_h (maps_with 3) psbt_e ≡ tx_out (Ok (wrote_tx 10 after)) (tx_e ++ replicate 51 9)
unfolding computes tx_over
report_changed = refl

-- and 0 does not honour the file
pub file_unkept : KeptBy (reading file_h) 0 → ⊥
unfolding computes outcome reading ins_of
file_unkept k = absurd (omega (arith, (k.met.0.height 800_000 refl).1))
