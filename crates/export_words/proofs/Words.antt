-- Laws of words in a lent slice.
use mathlib.Core.Path.{◌≡◌, refl, ap, ◌∙◌, subst}
use mathlib.Core.Bool.{Bool, true, false}
use Rattle.std.specs.Int.{from_bool}
use mathlib.Core.List.{List, ◌++◌}
use Prim.Native.Nat.{ℕ, ◌+◌, ◌%◌, ◌≤◌, ◌<◌}
use native.Mathlib.Nat.{zero-add}
use native.Mathlib.Omega.{arith}
use borrow.Author.Tests.{eq-eqb, ne_eqb, le-leb, lt-leb}
use lib.Dec.{eqb}
use lib.IntN.{ℤ}
use lib.ListN.{length, get_or, set, drop}
use lib.Seq.{sets-eq}
use Rattle.format.specs.Numbers.{signed, unsigned}
use Rattle.format.specs.Refusals.{number_of}
use Rattle.format.specs.Told.{flag, maybe_value}
use Rattle.format.specs.Answers.{Maybe}
use Rattle.std.specs.Prelude.{Some, None, MatchOption}
use Rattle.writer.specs.Writes.{wrote}
use Rattle.writer.proofs.Puts.{Copying, copy_more, copy_done}
use Rattle.export_words.specs.Words.{word, exported, answered_with, no_value, maybe_of, psbt_in, is_report}

-- a number that may be absent
pub no_number : (w : ℕ) → w ≡ 0xffff_ffff_ffff_ffff → None ≡ maybe_of w
unfolding maybe_of
no_number w h = rw (eq-eqb w no_value h)

pub a_number : (w : ℕ) → (w ≡ 0xffff_ffff_ffff_ffff → ⊥) → Some (w % 0x1_0000_0000) ≡ maybe_of w
unfolding maybe_of
a_number w h = rw (ne_eqb w no_value h)

pub ruleset maybes = (no_number, a_number)

-- and its word
pub word_is : (m : Maybe) (r : ℕ) (P : ℕ → Type 0) → MatchOption m (r ≡ 0xffff_ffff_ffff_ffff) P → ((n : ℕ) → P n → r ≡ n) → r ≡ word (maybe_value m)
unfolding word maybe_value unsigned
word_is None r P h k = h
word_is (Some n) r P h k = k n h

-- a yes or no as a word
pub bit_is : (b : Bool) → from_bool b ≡ word (flag b)
unfolding word
bit_is true = refl
bit_is false = refl

pub ruleset bits = (bit_is)

-- the slice is short; or has the words at its front
module _ (A : List ℕ) (n : ℕ) (ws : List ℕ) where
  pub too_short : length A < 8 → exported 25 A ≡ answered_with A n ws
  unfolding answered_with number_of
  too_short h = rw (lt-leb 8 (length A) h)

  module _ (e : length ws ≡ 8) (D : List ℕ) (k : ℕ) (c : Copying A 0 ws D k) where
    pub words_more : k < 8 → Copying A 0 ws (set D k (get_or ws k 0)) (k + 1)
    words_more h = subst (λ (i : ℕ). Copying A 0 ws (set D i (get_or ws k 0)) (k + 1)) (zero-add k) (copy_more A 0 ws D k c (omega arith))

    pub words_put : 8 ≤ length A → 8 ≤ k → exported n D ≡ answered_with A n ws
    unfolding answered_with wrote
    words_put h l =
        rw (le-leb 8 (length A) h)
        (ap (exported n) (copy_done A 0 ws D k c (omega arith) ∙ sets-eq ws A 0 (omega arith) ∙ ap (λ (i : ℕ). ws ++ drop i A) (zero-add (length ws) ∙ e)))

pub ruleset puts = (too_short, words_more, words_put)

-- what a parse reported, word by word
pub report_is : (R : List ℕ) (v a b i o : ℕ) (z : ℤ) (m n : Maybe)
    → v ≡ get_or R 1 0 → z ≡ signed (v % 0x1_0000_0000) → a ≡ get_or R 2 0 → m ≡ maybe_of a → b ≡ get_or R 3 0 → n ≡ maybe_of b
    → i ≡ get_or R 4 0 → o ≡ get_or R 5 0 → record { tx_version = z; fallback_locktime = m; tx_modifiable = n; inputs = i; outputs = o } ≡ psbt_in R
unfolding psbt_in
report_is R v a b i o z m n ev ez ea em eb en ei eo = rw (ez, ev, em, ea, en, eb, ei, eo)

pub ruleset reports = (report_is)

-- whether words are a report, by the first of them
pub report_told : (R : List ℕ) (n : ℕ) → n ≡ get_or R 0 0 → eqb n 7 ≡ is_report R
unfolding is_report
report_told R n e = rw e

pub ruleset reported = (report_told)
