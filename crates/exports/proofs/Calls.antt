-- Laws of exported calls: what the call below tells, put into the slice, is what the exported one promises.
use mathlib.Core.Path.{◌≡◌, sym, ◌∙◌, ap, ap₂}
use mathlib.Core.Bool.{true, false}
use Rattle.std.specs.Prelude.{Option, Some, None}
use mathlib.Core.List.{List}
use Prim.Native.Nat.{ℕ, ◌≤◌, ◌<◌}
use native.Mathlib.Omega.{arith}
use borrow.Author.Tests.{le-leb, lt-leb}
use lib.ListN.{length}
use Rattle.format.specs.Refusals.{number_of}
use Rattle.format.specs.Told.{Told, ToldParse, told_with, ToldOut, told_left}
use Rattle.format.specs.declared.Psbt.{Psbt}
use Rattle.format.specs.declared.State.{State}
use Rattle.format.proofs.Tests.{pick_by}
use Rattle.export_words.proofs.Reports.{none_asked, none_asked_in, none_out}
use Rattle.export_words.specs.Words.{Export, exported, answered, psbt_in, is_report, report_in, no_report, state_of, asked, asked_in_def}
use Rattle.export_words.specs.Words.{leaves, leaves_both, parse_left, parse_export, out_left, out_export}

no_some : {A : Type 0} {s : Psbt} → None ≡ Some s → A
no_some e = let z : ◌≡◌ {A = ℕ} 0 1 = cc in absurd (omega arith)

-- the words are no report, or are one, and what they report
module _ (R : List ℕ) where
  no_report_lem : None ≡ report_in R → is_report R ≡ false
  unfolding report_in
  no_report_lem = pick_by (λ (r : Option Psbt). None ≡ r → is_report R ≡ false) (is_report R) _ _ (λ y e. no_some e) (λ n e. n)

  a_report : (s : Psbt) → Some s ≡ report_in R → (is_report R ≡ true) × (s ≡ psbt_in R)
  unfolding report_in
  a_report s = pick_by (λ (r : Option Psbt). Some s ≡ r → (is_report R ≡ true) × (s ≡ psbt_in R)) (is_report R) _ _ (λ y e. (y, (cc))) (λ n e. no_some (sym e))

-- a call that changes no lent memory but the slice
module _ (R A : List ℕ) (r : Option Psbt) (h : r ≡ report_in R) (x : Export) where
  pub asked_none : (k : Psbt → Told) → r ≡ None → x ≡ answered A no_report → x ≡ asked R A k
  asked_none k n e = e ∙ sym (none_asked R A (no_report_lem R (sym n ∙ h)) k)

  pub asked_by : (k : Psbt → Told) (s : Psbt) (t : Told) → r ≡ Some s → t ≡ k s → x ≡ answered A t → x ≡ asked R A k
  unfolding asked
  asked_by k s t y q e =
      let w = a_report R s (sym y ∙ h) in
      e ∙ ap (answered A) (q ∙ ap k w.1) ∙ sym (rw w.0)

  -- with the state
  module _ (a b : ℕ) (k : State → Psbt → Told) where
    pub in_none : r ≡ None → x ≡ answered A no_report → x ≡ asked_in_def a b R A k
    in_none n e = e ∙ sym (none_asked_in R A (no_report_lem R (sym n ∙ h)) a b k)

    pub asked_in : (z : State) (s : Psbt) (t : Told) → r ≡ Some s → z ≡ state_of a b → t ≡ k z s → x ≡ answered A t → x ≡ asked_in_def a b R A k
    unfolding asked_in_def
    asked_in z s t y w q e = asked_by (k (state_of a b)) s t y (q ∙ ap (λ (z : State). k z s) w) e

pub ruleset asks = (asked_none, asked_by)

pub ruleset asks_in = (in_none, asked_in)

-- a call that writes a buffer
module _ (a b : ℕ) (R A B : List ℕ) (k : State → Psbt → ToldOut) where
  pub out_short : length A < 8 → leaves (exported 25 A) B ≡ out_export a b R A B k
  unfolding out_export number_of
  out_short h = rw (lt-leb 8 (length A) h)

  module _ (r : Option Psbt) (h : r ≡ report_in R) (x : Export) where
    pub out_none : r ≡ None → x ≡ answered A no_report → leaves x B ≡ out_export a b R A B k
    out_none n e = ap (λ (y : Export). leaves y B) e ∙ sym (none_out R A (no_report_lem R (sym n ∙ h)) a b B k)

    pub out_by : 8 ≤ length A → (z : State) (s : Psbt) (t : Told) (C : List ℕ)
        → r ≡ Some s → z ≡ state_of a b → told_left t C ≡ k z s → x ≡ answered A t → leaves x C ≡ out_export a b R A B k
    unfolding out_export out_left
    out_by l z s t C y w q e =
        let v = a_report R s (sym y ∙ h) in
        rw (le-leb 8 (length A) l, v.0) (ap (λ (y : Export). leaves y C) e ∙ ap (out_left A) (q ∙ ap₂ k w v.1))

pub ruleset outs = (out_short, out_none, out_by)

-- a parse
module _ (A P M : List ℕ) (d : ToldParse) where
  pub parse_short : length A < 8 → leaves_both (exported 25 A) P M ≡ parse_export A P M d
  unfolding parse_export number_of
  parse_short h = rw (lt-leb 8 (length A) h)

  pub parse_by : 8 ≤ length A → (t : Told) (Q N : List ℕ) (x : Export) → told_with t Q N ≡ d → x ≡ answered A t → leaves_both x Q N ≡ parse_export A P M d
  unfolding parse_export parse_left
  parse_by h t Q N x q e = rw (le-leb 8 (length A) h) (ap (λ (y : Export). leaves_both y Q N) e ∙ ap (parse_left A) q)

pub ruleset parses = (parse_short, parse_by)
