-- A file that is parsed and then asked for its transaction, and what its lock is to be.
use Rattle.std.specs.Prelude.{◌≡◌, List, ℕ, take}
use Rattle.format.specs.Tests.{pick}
use Rattle.format.specs.Content.{Content}
use Rattle.format.specs.Parse.{parsed}
use Rattle.format.specs.Tables.{view}
use Rattle.format.specs.Transaction.{table_fits, unsigned_tx_def}
use Rattle.format.specs.Told.{told_with, told_parsed, told_parse, told_left, told_tx, told_tx_out}
use Rattle.format.specs.declared.PsbtError.{PsbtError}
use Rattle.format.specs.declared.PsbtError.TheVariants.{BadValue, BadIndex}
use Rattle.format.specs.declared.Psbt.{Psbt}
use Rattle.format.specs.declared.State.{State}
use Rattle.format.specs.declared.Parsed.TheVariants.{Accepted}
use Rattle.format.specs.Answers.{UnsignedTx}
use Rattle.format.proofs.Numbers.{All}
use Rattle.claims_calls.specs.Newer.{ins_of, outs_of}
use Rattle.claims_lock.specs.Honours.{Meets, Honours, lock_in}

-- a file f parsed into lent tables and accepted, and then asked for its transaction over the report and the tables that the parse left:
-- any outcomes that meet the promises of `parse` and of `unsigned_tx`
pub record Run (f : List ℕ) : Type 0 where
  pub pairs : List ℕ
  pub maps : List ℕ
  pub report : Psbt
  pub pairs_used : ℕ
  pub maps_used : ℕ
  pub pairs_left : List ℕ
  pub maps_left : List ℕ
  pub parses : told_with (told_parsed (Accepted report pairs_used maps_used)) pairs_left maps_left ≡ told_parse (parsed f pairs maps)
  pub state : State
  pub scripts : List ℕ
  pub buffer : List ℕ
  pub answer : UnsignedTx
  pub buffer_left : List ℕ
  pub calls : told_left (told_tx answer) buffer_left ≡ told_tx_out (unsigned_tx_def (view f pairs_left maps_left report) report state scripts buffer)

-- the lock in the last four of the n bytes written
unfoldable pub lock_written : {f : List ℕ} → Run f → ℕ → ℕ
lock_written x n = lock_in (take n x.buffer_left)

-- a lock that meets and honours every input of a content
pub record Kept (c : Content) (lock : ℕ) : Type 0 where
  pub met : All (Meets lock) (ins_of c)
  pub honoured : All (Honours lock) (ins_of c)

-- the refusal of a content whose greatest time is too small: 24 where scripts are set and the script table is none that the setter leaves, else 7
unfoldable pub fallen_refusal : {f : List ℕ} → Run f → Content → PsbtError
fallen_refusal x c = pick (table_fits x.state (outs_of c) x.scripts) BadValue BadIndex
