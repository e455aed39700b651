-- Laws of the whole text: by what the inputs ask, by the lock's and the transaction's answer, by what the network makes of the lock, by the parse,
-- by the file's length.
use mathlib.Core.Path.{◌≡◌, refl, sym, ◌∙◌, ap, ap₂}
use mathlib.Core.List.{List, []}
use Prim.Native.Nat.{ℕ, suc, ◌+◌, ◌-◌, ◌≤◌, ◌<◌}
use native.Mathlib.Omega.{arith}
use borrow.Author.Tests.{lt-ltb, le-ltb}
use lib.ListN.{length}
use Rattle.format.specs.Tables.{view, held_input}
use Rattle.format.specs.Fields.{required_height_locktime, required_time_locktime}
use Rattle.format.specs.Parse.{out, parsed}
use Rattle.format.specs.Transaction.{TxOut, tx_out, unsigned_tx_def, lock_decided}
use Rattle.format.specs.Told.{told_parsed, told_with, told_parse, told_numbered, told_lock, told_tx, told_left, told_tx_out}
use Rattle.format.specs.declared.PsbtError.{PsbtError}
use Rattle.format.specs.declared.PsbtError.TheVariants.{TooLong}
use Rattle.format.specs.declared.Psbt.{Psbt}
use Rattle.format.specs.Answers.{Decided, Numbered, UnsignedTx}
use Rattle.format.specs.declared.Parsed.{Parsed}
use Rattle.format.specs.declared.Parsed.TheVariants.{Accepted, Refused}
use Rattle.format.proofs.Told.{numbered_one, lock_one, parse_out_one, tx_out_one}
use Rattle.text.specs.Spots.{Spot, lay}
use Rattle.text.proofs.Lays.{lay_then}
use Rattle.text.proofs.Chains.{chain4}
use Rattle.rooms.specs.Limits.{longest}
use Rattle.rooms.specs.Rooms.{pair_room, map_room, tx_room, fresh}
use Rattle.reasons.specs.Reasons.{refused_line}
use Rattle.lock_lines.specs.Lines.{head_line, input_line, verdict}
use Rattle.heed_lines.specs.declared.Heed.{Heed}
use Rattle.heed_lines.specs.Heeds.{heed_of, heed_line}
use Rattle.why_text.specs.Why.{height_asked, time_asked, inputs_text, answered, accepted_text, refused_text, parsed_text, why_in, why}

-- the lines of the n inputs from number i on
abbrev pub lines : List ℕ → List ℕ → List ℕ → Psbt → ℕ → ℕ → List ℕ
lines f P M s i n = inputs_text (height_asked f P M s) (time_asked f P M s) i n

-- the lines of the inputs from number i on, put from here, give those of all
module _ (a t : Spot) (f P M : List ℕ) (s : Psbt) (i : ℕ) (k : lay t (lines f P M s i (s.inputs - i)) ≡ lay a (lines f P M s 0 s.inputs)) where
  pub asks_done : s.inputs ≤ i → t ≡ lay a (lines f P M s 0 s.inputs)
  unfolding inputs_text lay
  asks_done h = let z : s.inputs - i ≡ 0 = omega arith in sym (ap (λ (n : ℕ). lay t (lines f P M s i n)) z) ∙ k

  pub asks_more : i < s.inputs → (x y : Numbered) → told_numbered x ≡ told_numbered (required_height_locktime f (held_input f P M s i))
      → told_numbered y ≡ told_numbered (required_time_locktime f (held_input f P M s i))
      → (u : Spot) → u ≡ lay t (input_line i x y) → lay u (lines f P M s (i + 1) (s.inputs - (i + 1))) ≡ lay a (lines f P M s 0 s.inputs)
  unfolding inputs_text height_asked time_asked
  asks_more less x y p q u g =
      let n : suc (s.inputs - (i + 1)) ≡ s.inputs - i = omega arith in
      let g' : u ≡ lay t (input_line i (height_asked f P M s i) (time_asked f P M s i))
      = g ∙ ap₂ (λ (v w : Numbered). lay t (input_line i v w)) (numbered_one _ _ p) (numbered_one _ _ q) in
      lay_then _ _ _ _ _ g' refl ∙ ap (λ (m : ℕ). lay t (lines f P M s i m)) n ∙ k

pub ruleset asking = (asks_done, asks_more)

-- the head, the inputs, the verdict, and what the network makes of it
pub accepted_text_lem : (s t₁ t₂ t₃ t₄ : Spot) (f P M : List ℕ) (x : Psbt) (B B' : List ℕ) (a : UnsignedTx) (l : Decided) (h : Heed)
    → t₁ ≡ lay s (head_line x.inputs x.fallback_locktime) → t₂ ≡ lay t₁ (inputs_text (height_asked f P M x) (time_asked f P M x) 0 x.inputs)
    → told_left (told_tx a) B' ≡ told_tx_out (unsigned_tx_def (view f P M x) x fresh [] B)
    → told_lock l ≡ told_lock (lock_decided (view f P M x) x) → t₃ ≡ lay t₂ (verdict l a)
    → h ≡ heed_of f P M x → t₄ ≡ lay t₃ (heed_line l h)
    → t₄ ≡ lay s (accepted_text f P M x B)
unfolding accepted_text answered told_tx_out
accepted_text_lem s t₁ t₂ t₃ t₄ f P M x B B' a l h p q e d r k w =
    let m : l ≡ lock_decided (view f P M x) x = lock_one l (lock_decided (view f P M x) x) d in
    let o : tx_out a B' ≡ unsigned_tx_def (view f P M x) x fresh [] B = tx_out_one (tx_out a B') (unsigned_tx_def (view f P M x) x fresh [] B) e in
    chain4 s t₁ t₂ t₃ t₄ _ _ _ _ _ p q
    (r ∙ ap₂ (λ (k : Decided) (o : TxOut). lay t₂ (verdict k (answered o))) m o)
    (w ∙ ap₂ (λ (k : Decided) (h : Heed). lay t₃ (heed_line k h)) m k)
    refl

-- by the parse
module _ (s t : Spot) (f P M B P' M' : List ℕ) (r : Parsed) (e : told_with (told_parsed r) P' M' ≡ told_parse (parsed f P M)) where
  text_is : parsed_text B f (out r P' M') ≡ why_in P M B f
  unfolding why_in told_parse
  text_is = ap (parsed_text B f) (parse_out_one (out r P' M') (parsed f P M) e)

  pub parsed_refused : (x : PsbtError) (p m : ℕ) → r ≡ Refused x p m → t ≡ lay s (refused_text f P' M' x p m) → t ≡ lay s (why_in P M B f)
  unfolding parsed_text
  parsed_refused x p m w h = h ∙ ap (lay s) (sym (ap (λ (r : Parsed). parsed_text B f (out r P' M')) w) ∙ text_is)

  pub parsed_accepted : (x : Psbt) (p m : ℕ) → r ≡ Accepted x p m → t ≡ lay s (accepted_text f P' M' x B) → t ≡ lay s (why_in P M B f)
  unfolding parsed_text
  parsed_accepted x p m w h = h ∙ ap (lay s) (sym (ap (λ (r : Parsed). parsed_text B f (out r P' M')) w) ∙ text_is)

pub ruleset by_parse = (parsed_refused, parsed_accepted)

-- by the file's length
module _ (s t : Spot) (f : List ℕ) where
  pub why_long : longest < length f → t ≡ lay s (refused_line TooLong) → t ≡ lay s (why f)
  unfolding why
  why_long h e = e ∙ sym (rw (lt-ltb longest (length f) h))

  pub why_short : length f ≤ longest → (P M B : List ℕ) → P ≡ pair_room → M ≡ map_room → B ≡ tx_room → t ≡ lay s (why_in P M B f) → t ≡ lay s (why f)
  unfolding why
  why_short h P M B p m b e = e ∙ rw (p, m, b) (sym (rw (le-ltb longest (length f) h)))

pub ruleset by_length = (why_long, why_short)
