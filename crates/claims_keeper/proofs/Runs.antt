-- Parses and transactions of two files, computed, are runs of which the claims speak.
use Rattle.std.specs.Prelude.{ℕ, ◌≡◌, List, []}
use Rattle.std.proofs.Common.{ap}
use Rattle.std.proofs.Math.Path.{sym}
use Rattle.std.proofs.Math.ListN.{replicate}
use Rattle.format.specs.Transaction.{tx_out}
use Rattle.format.specs.Told.{told_parse, told_tx_out}
use Rattle.format.specs.ExampleFiles.{psbt_f, fresh}
use Rattle.format.specs.Answers.{UnsignedTx}
use Rattle.claims_keeper.specs.Keeper.{Run}
use Rattle.claims_keeper.specs.Examples.{file_h, file_t, table_left, maps_with, parsed_f, left, parses_h, parses_t, tx_over, lock_kept, clock_refused}

module _ (f : List ℕ) (r : UnsignedTx) (B : List ℕ) where
  -- a parse and a transaction over what it left are a run of which the claims speak
  run_of : parsed_f f ≡ left → tx_over f (maps_with 3) psbt_f ≡ tx_out r B → Run f
  unfolding parsed_f tx_over told_parse told_tx_out
  run_of p c = record {
    pairs = replicate 36 9;
    maps = maps_with 2;
    report = psbt_f;
    pairs_used = 9;
    maps_used = 3;
    pairs_left = table_left;
    maps_left = maps_with 3;
    parses = sym (ap told_parse p);
    state = fresh;
    scripts = [];
    buffer = replicate 61 9;
    answer = r;
    buffer_left = B;
    calls = sym (ap told_tx_out c);
  }

-- so is that of the first file
pub run_h : Run file_h
run_h = run_of file_h _ _ parses_h lock_kept

-- and that of the second
pub run_t : Run file_t
run_t = run_of file_t _ _ parses_t clock_refused
