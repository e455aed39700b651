-- Laws of lines that an answer's case decides, and of numbers in them.
use mathlib.Core.Path.{◌≡◌, refl, sym, ◌∙◌, ap}
use mathlib.Core.List.{List}
use Prim.Native.Nat.{ℕ, ◌≤◌, ◌<◌}
use borrow.Author.Tests.{lt-ltb, le-ltb, eq-eqb, ne_eqb}
use Rattle.format.specs.Locks.{threshold}
use Rattle.format.specs.Refusals.{number_of}
use Rattle.format.specs.declared.PsbtError.{PsbtError}
use Rattle.format.specs.declared.PsbtError.TheVariants.{BadValue}
use Rattle.format.specs.Answers.{Decided, Maybe, Numbered, UnsignedTx}
use Rattle.std.specs.Prelude.{Ok, Err}
use Rattle.format.specs.declared.Written.{Written}
use Rattle.text.specs.Spots.{Spot, lay}
use Rattle.text.specs.Say.{newline}
use Rattle.text.specs.Spelled.{decimal}
use Rattle.text.proofs.Chains.{chain3, chain5}
use Rattle.reasons.specs.Reasons.{say_that, meaning}
use Rattle.reasons.proofs.Meanings.{by_case}
use Rattle.lock_lines.specs.Lines.{height_number, time_number, say_none, lock_text, fallback_text, height_text, time_text}
use Rattle.lock_lines.specs.Lines.{say_lack, lack_text, say_no_tx, say_tx, say_bytes, tx_line, verdict}

pub fallback_by : (s t : Spot) (x y : Maybe) (b : List ℕ) → x ≡ y → t ≡ lay s b → b ≡ fallback_text y → t ≡ lay s (fallback_text x)
fallback_by s t x y b e h q = by_case fallback_text s t x y b e q h

pub height_by_lem : (s t : Spot) (x y : Numbered) (b : List ℕ) → x ≡ y → t ≡ lay s b → b ≡ height_text y → t ≡ lay s (height_text x)
height_by_lem s t x y b e h q = by_case height_text s t x y b e q h

pub time_by_lem : (s t : Spot) (x y : Numbered) (b : List ℕ) → x ≡ y → t ≡ lay s b → b ≡ time_text y → t ≡ lay s (time_text x)
time_by_lem s t x y b e h q = by_case time_text s t x y b e q h

pub verdict_by : (s t : Spot) (x y : Decided) (a : UnsignedTx) (b : List ℕ) → x ≡ y → t ≡ lay s b → b ≡ verdict y a → t ≡ lay s (verdict x a)
verdict_by s t x y a b e h q = by_case (λ (l : Decided). verdict l a) s t x y b e q h

-- a lock number: none, a height, a time
module _ (s t : Spot) (n : ℕ) where
  pub lock_none : n ≡ 0 → t ≡ lay s say_none → t ≡ lay s (lock_text n)
  unfolding lock_text
  lock_none h e = e ∙ sym (rw (eq-eqb n 0 h))

  pub lock_height : (n ≡ 0 → ⊥) → n < threshold → t ≡ lay s (height_number n) → t ≡ lay s (lock_text n)
  unfolding lock_text
  lock_height h l e = e ∙ sym (rw (ne_eqb n 0 h, lt-ltb n threshold l))

  pub lock_time : (n ≡ 0 → ⊥) → threshold ≤ n → t ≡ lay s (time_number n) → t ≡ lay s (lock_text n)
  unfolding lock_text
  lock_time h l e = e ∙ sym (rw (ne_eqb n 0 h, le-ltb n threshold l))

pub ruleset lock_numbers = (lock_none, lock_height, lock_time)

-- what a transaction lacks: the code asks for a bad value by its number
module _ (s t : Spot) (e : PsbtError) (n m : ℕ) (q : n ≡ number_of e) (r : m ≡ number_of BadValue) where
  pub lack_field : n ≡ m → t ≡ lay s say_lack → t ≡ lay s (lack_text e)
  unfolding lack_text
  lack_field h p = p ∙ sym (rw (eq-eqb (number_of e) (number_of BadValue) (sym q ∙ h ∙ r)))

  pub lack_other : (n ≡ m → ⊥) → t ≡ lay s (meaning e) → t ≡ lay s (lack_text e)
  unfolding lack_text
  lack_other h p = p ∙ sym (rw (ne_eqb (number_of e) (number_of BadValue) (λ z. h (q ∙ z ∙ sym r))))

pub ruleset lacks = (lack_field, lack_other)

-- the transaction's line
pub tx_refused : (s t₁ t₂ t₃ t₄ t₅ : Spot) (x : UnsignedTx) (e : PsbtError) (n : ℕ) → x ≡ Err e → n ≡ number_of e → t₁ ≡ lay s say_no_tx
    → t₂ ≡ lay t₁ (decimal n) → t₃ ≡ lay t₂ say_that → t₄ ≡ lay t₃ (lack_text e) → t₅ ≡ lay t₄ newline
    → t₅ ≡ lay s (tx_line x)
unfolding tx_line
tx_refused s t₁ t₂ t₃ t₄ t₅ x e n w q a b c d f =
    chain5 s t₁ t₂ t₃ t₄ t₅ _ _ _ _ _ _ a (b ∙ ap (λ (m : ℕ). lay t₁ (decimal m)) q) c d f refl ∙ ap (λ (y : UnsignedTx). lay s (tx_line y)) (sym w)

pub tx_written : (s t₁ t₂ t₃ : Spot) (x : UnsignedTx) (w : Written) → x ≡ Ok w → t₁ ≡ lay s say_tx → t₂ ≡ lay t₁ (decimal w.len)
    → t₃ ≡ lay t₂ say_bytes → t₃ ≡ lay s (tx_line x)
unfolding tx_line
tx_written s t₁ t₂ t₃ x w e a b c = chain3 s t₁ t₂ t₃ _ _ _ _ a b c refl ∙ ap (λ (y : UnsignedTx). lay s (tx_line y)) (sym e)

pub ruleset txs = (tx_refused, tx_written)
