-- Laws of what the network makes of a lock, and of its line.
use mathlib.Core.Path.{◌≡◌, refl, sym, ◌∙◌, ap}
use mathlib.Core.Bool.{Bool, true, false}
use mathlib.Core.List.{List}
use Prim.Native.Nat.{ℕ, suc, ◌+◌, ◌-◌, ◌≤◌, ◌<◌}
use native.Mathlib.Omega.{arith}
use borrow.Author.Tests.{eq-eqb, ne_eqb}
use Rattle.format.specs.Tests.{pick}
use Rattle.format.specs.Tables.{held_input}
use Rattle.format.specs.Fields.{sequence}
use Rattle.format.specs.Locks.{lock_of}
use Rattle.std.specs.Prelude.{Ok, Err, ◌⊎◌}
use Rattle.std.proofs.Common.{inl, inr}
use Rattle.format.specs.declared.PsbtError.{PsbtError}
use Rattle.format.specs.declared.Lock.{Lock}
use Rattle.format.specs.declared.Lock.TheVariants.{Height, Time, Fallback, BothKinds, HeightTooGreat, TimeTooSmall, Malformed}
use Rattle.format.specs.Told.{told_numbered}
use Rattle.format.specs.declared.Psbt.{Psbt}
use Rattle.format.specs.Answers.{Decided, Numbered}
use Rattle.format.proofs.Told.{numbered_one}
use Rattle.text.specs.Spots.{Spot, spot, lay}
use Rattle.text.specs.Spelled.{decimal}
use Rattle.text.proofs.Chains.{chain3}
use Rattle.heed_lines.specs.declared.Heed.{Heed}
use Rattle.heed_lines.specs.declared.Heed.TheVariants.{Ignored, By}
use Rattle.heed_lines.specs.Heeds.{is_final, heed_from, sequence_of, heed_of, say_heeds, say_below, heed_text, number_decided, heed_line}

-- a value that a case decides
pub final_by : (r : Bool) (x y : Numbered) → x ≡ y → r ≡ is_final y → r ≡ is_final x
final_by r x y e q = q ∙ sym (ap is_final e)

-- the lock time that was decided, by the kind of the lock
none_of : (x : Lock) → ((n i : ℕ) → x ≡ Height n i → ⊥) → ((n i : ℕ) → x ≡ Time n i → ⊥) → ((n : ℕ) → x ≡ Fallback n → ⊥) → 0 ≡ number_decided (lock_of (Ok x))
unfolding lock_of number_decided
none_of (Height n i) h t f = absurd (h n i refl)
none_of (Time n i) h t f = absurd (t n i refl)
none_of (Fallback n) h t f = absurd (f n refl)
none_of (BothKinds a b) h t f = refl
none_of (HeightTooGreat n i) h t f = refl
none_of (TimeTooSmall n i) h t f = refl
none_of (Malformed i) h t f = refl

module _ (l : Decided) where
  pub number_refused : (e : PsbtError) → l ≡ Err e → 0 ≡ number_decided (lock_of l)
  unfolding lock_of number_decided
  number_refused e q = rw q

  module _ (x : Lock) (q : l ≡ Ok x) where
    pub number_kept : (n : ℕ) → ((i : ℕ) × x ≡ Height n i) ⊎ (((i : ℕ) × x ≡ Time n i) ⊎ (x ≡ Fallback n)) → n ≡ number_decided (lock_of l)
    unfolding lock_of number_decided
    number_kept n (inl w) = rw (q, w.1)
    number_kept n (inr (inl w)) = rw (q, w.1)
    number_kept n (inr (inr w)) = rw (q, w)

    pub number_none : ((n i : ℕ) → x ≡ Height n i → ⊥) → ((n i : ℕ) → x ≡ Time n i → ⊥) → ((n : ℕ) → x ≡ Fallback n → ⊥) → 0 ≡ number_decided (lock_of l)
    number_none h t f = none_of x h t f ∙ sym (ap (λ (d : Decided). number_decided (lock_of d)) q)

-- the inputs from number i on say what all say: those before are final
abbrev pub Heeding : List ℕ → List ℕ → List ℕ → Psbt → ℕ → Type 0
Heeding f P M s i = heed_from (sequence_of f P M s) i (s.inputs - i) ≡ heed_of f P M s

pub heeds_first : (f P M : List ℕ) (s : Psbt) → Heeding f P M s 0
unfolding heed_of
heeds_first f P M s = let q : s.inputs - 0 ≡ s.inputs = omega arith in rw q

module _ (f P M : List ℕ) (s : Psbt) (i : ℕ) (k : Heeding f P M s i) where
  pub heeds_none : s.inputs ≤ i → Ignored ≡ heed_of f P M s
  unfolding heed_from
  heeds_none h = let z : s.inputs - i ≡ 0 = omega arith in sym (ap (heed_from (sequence_of f P M s) i) z) ∙ k

  module _ (less : i < s.inputs) (q : Numbered) (e : told_numbered q ≡ told_numbered (sequence f (held_input f P M s i))) (r : Bool) (w : r ≡ is_final q) where
    turn : pick r (heed_from (sequence_of f P M s) (i + 1) (s.inputs - (i + 1))) (By i) ≡ heed_of f P M s
    unfolding heed_from sequence_of
    turn =
        let n : suc (s.inputs - (i + 1)) ≡ s.inputs - i = omega arith in
        let t : r ≡ is_final (sequence_of f P M s i) = w ∙ ap is_final (numbered_one _ _ e) in
        ap (λ (b : Bool). pick b (heed_from (sequence_of f P M s) (i + 1) (s.inputs - (i + 1))) (By i)) t ∙ ap (heed_from (sequence_of f P M s) i) n ∙ k

    pub heeds_more : r ≡ true → Heeding f P M s (i + 1)
    heeds_more h = rw h at turn

    pub heeds_here : r ≡ false → By i ≡ heed_of f P M s
    heeds_here h = rw h at turn

pub ruleset heeding = (heeds_first, heeds_none, heeds_more, heeds_here)

-- both lines
pub text_ignored : (s t : Spot) (x : Heed) (b : List ℕ) → x ≡ Ignored → t ≡ lay s b → b ≡ heed_text Ignored → t ≡ lay s (heed_text x)
text_ignored s t x b e h q = h ∙ ap (lay s) (q ∙ sym (ap heed_text e))

pub text_heeded_lem : (s t₁ t₂ t₃ : Spot) (x : Heed) (i : ℕ) → x ≡ By i → t₁ ≡ lay s say_heeds → t₂ ≡ lay t₁ (decimal i) → t₃ ≡ lay t₂ say_below
    → t₃ ≡ lay s (heed_text x)
unfolding heed_text
text_heeded_lem s t₁ t₂ t₃ x i e a b c = chain3 s t₁ t₂ t₃ _ _ _ _ a b c refl ∙ ap (λ (y : Heed). lay s (heed_text y)) (sym e)

pub ruleset texts = (text_ignored, text_heeded_lem)

-- a line, or none
module _ (at : ℕ) (D : List ℕ) (l : Decided) (h : Heed) (n : ℕ) (is : n ≡ number_decided (lock_of l)) where
  pub line_none : n ≡ 0 → spot at D ≡ lay (spot at D) (heed_line l h)
  unfolding heed_line lay
  line_none z = sym (rw (eq-eqb (number_decided (lock_of l)) 0 (sym is ∙ z)))

  pub line_some : (n ≡ 0 → ⊥) → (t : Spot) → t ≡ lay (spot at D) (heed_text h) → t ≡ lay (spot at D) (heed_line l h)
  unfolding heed_line
  line_some z t e = e ∙ sym (rw (ne_eqb (number_decided (lock_of l)) 0 (λ q. z (is ∙ q))))

pub ruleset heed_lines = (line_none, line_some)
