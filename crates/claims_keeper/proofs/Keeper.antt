-- From a parse that accepts to the transaction: the lock honours every input of the file's content, and a file whose greatest time is too small gets none.
use mathlib.Core.Path.{◌≡◌, sym, ◌∙◌, ap, subst}
use mathlib.Core.Bool.{false}
use mathlib.Core.List.{List}
use Prim.Native.Nat.{ℕ}
use Rattle.format.specs.Content.{Content}
use Rattle.format.specs.Reading.{accepted, reading}
use Rattle.format.specs.Tables.{view}
use Rattle.format.specs.Scripts.{Reported, reports, reported}
use Rattle.format.specs.Transaction.{table_fits, tx_reported, tx_out, written, unsigned_tx_def}
use Rattle.format.specs.declared.PsbtError.TheVariants.{BadValue}
use Rattle.format.specs.declared.Psbt.{Psbt}
use Rattle.format.specs.declared.State.{State}
use Rattle.format.specs.Answers.{wrote_tx}
use Rattle.std.specs.Prelude.{Ok, Err}
use Rattle.format.proofs.Numbers.{All, Byte}
use Rattle.claims_reading.specs.Shown.{Accepts}
use Rattle.claims_reading.proofs.Promised.{promised_accepts}
use Rattle.claims_calls.specs.Newer.{report_of, ins_of, outs_of}
use Rattle.claims_calls.proofs.Calls.{table_reported}
use Rattle.claims_lock.specs.Honours.{FallenTimes, AllHonoured}
use Rattle.claims_lock.proofs.Promises.{outcome, written_honours, fallen_refused}
use Rattle.claims_keeper.specs.Keeper.{Run, lock_written, Kept, fallen_refusal}

-- the tables of an accepted parse report what its content has
reported_by_lem : (f P M : List ℕ) (s : Psbt) (p m : ℕ) (P' M' : List ℕ) (a : Accepts f P M s p m P' M')
    → reported (view f P' M' s) s ≡ reports (ins_of a.content) (outs_of a.content)
unfolding report_of
reported_by_lem f P M s p m P' M' a = rw (a.reports, a.pairs_left, a.maps_left) (table_reported f a.content P M a.reads)

module _ (f : List ℕ) (x : Run f) where
  accepts : Accepts f x.pairs x.maps x.report x.pairs_used x.maps_used x.pairs_left x.maps_left
  accepts = promised_accepts f _ _ _ _ _ _ _ x.parses

  reported_is : (c : Content) → reading f ≡ accepted c → reported (view f x.pairs_left x.maps_left x.report) x.report ≡ reports (ins_of c) (outs_of c)
  reported_is c reads =
      let same : accepted accepts.content ≡ accepted c = sym accepts.reads ∙ reads in
      let e : accepts.content ≡ c = cc in
      reported_by_lem f _ _ _ _ _ _ _ accepts ∙ ap (λ (d : Content). reports (ins_of d) (outs_of d)) e

  -- if bytes were written, the lock that they end in meets and honours every input of the file's content
  pub keeper_content : All Byte f → (n : ℕ) (t : State) → x.answer ≡ Ok (wrote_tx n t) → (c : Content) → reading f ≡ accepted c → Kept c (lock_written x n)
  unfolding lock_written
  keeper_content bytes n t w c reads =
      let h = subst (AllHonoured (lock_written x n)) (reported_is c reads)
      (written_honours f x.pairs_left x.maps_left x.report x.state x.scripts x.buffer bytes x.answer x.buffer_left x.calls n t w) in
      record { met = h.0; honoured = h.1 }

  -- and the file has a content
  pub keeper : All Byte f → (n : ℕ) (t : State) → x.answer ≡ Ok (wrote_tx n t) → (c : Content) × (reading f ≡ accepted c) × Kept c (lock_written x n)
  keeper bytes n t w = (accepts.content, accepts.reads, keeper_content bytes n t w accepts.content accepts.reads)

  -- if its content asks for a time, and for none that is not below the threshold: refused, and the buffer is as it was
  pub fallen_clock_of_a_file : (c : Content) → reading f ≡ accepted c
      → FallenTimes (ins_of c) → (x.answer ≡ Err (fallen_refusal x c)) × (x.buffer_left ≡ x.buffer)
  unfolding unsigned_tx_def written fallen_refusal
  fallen_clock_of_a_file c reads clock =
      let e : tx_out x.answer x.buffer_left ≡ tx_out (Err (fallen_refusal x c)) x.buffer =
      sym (outcome x.answer x.buffer_left _ x.calls)
      ∙ ap (λ (y : Reported). written x.state x.buffer (tx_reported x.report x.state x.scripts y)) (reported_is c reads)
      ∙ ap (written x.state x.buffer) (fallen_refused x.report x.state x.scripts (ins_of c) (outs_of c) clock) in
      ((cc), (cc))

  -- with 7 where no scripts were set
  pub fallen_clock_unset : (c : Content) → reading f ≡ accepted c
      → FallenTimes (ins_of c) → x.state.set ≡ false → (x.answer ≡ Err BadValue) × (x.buffer_left ≡ x.buffer)
  unfolding fallen_refusal table_fits
  fallen_clock_unset c reads clock unset = rw unset at (fallen_clock_of_a_file c reads clock)
