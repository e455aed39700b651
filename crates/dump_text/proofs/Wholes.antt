-- Laws of the whole text: by the parse's answer and by the transaction's.
use mathlib.Core.Path.{◌≡◌, sym, ◌∙◌, ap}
use mathlib.Core.List.{List, []}
use Prim.Native.Nat.{ℕ, ◌≤◌, ◌<◌}
use borrow.Author.Tests.{lt-ltb, le-ltb}
use lib.ListN.{length}
use Rattle.format.specs.Tables.{View, view, maps_reported}
use Rattle.format.specs.Parse.{out, parsed}
use Rattle.format.specs.Transaction.{TxOut, tx_out, unsigned_tx_def}
use Rattle.format.specs.Told.{told_parsed, told_with, told_parse, told_tx, told_left, told_tx_out}
use Rattle.format.specs.declared.PsbtError.{PsbtError}
use Rattle.format.specs.declared.PsbtError.TheVariants.{TooLong}
use Rattle.format.specs.declared.Psbt.{Psbt}
use Rattle.format.specs.declared.Parsed.{Parsed}
use Rattle.format.specs.declared.Parsed.TheVariants.{Accepted, Refused}
use Rattle.format.specs.Answers.{UnsignedTx}
use Rattle.format.proofs.Told.{parse_out_one, tx_out_one}
use Rattle.rooms.specs.Limits.{longest}
use Rattle.rooms.specs.Rooms.{pair_room, map_room, tx_room, fresh}
use Rattle.text.specs.Spots.{Spot, lay}
use Rattle.text.proofs.Lays.{lay_then}
use Rattle.dump_text.specs.Lines.{refused_line, head_line, maps_text, unsigned_line}
use Rattle.dump_text.specs.Dump.{tx_line, accepted_text, parsed_text, dump_in, dump}

-- the head, the maps, the last line
pub accepted_text_lem : (s t₁ t₂ t₃ : Spot) (v : ℕ → View) (x : Psbt) (B B' : List ℕ) (a : UnsignedTx)
    → t₁ ≡ lay s (head_line x) → t₂ ≡ lay t₁ (maps_text v 0 (maps_reported x)) → told_left (told_tx a) B' ≡ told_tx_out (unsigned_tx_def v x fresh [] B)
    → t₃ ≡ lay t₂ (unsigned_line a B')
    → t₃ ≡ lay s (accepted_text v x B)
unfolding accepted_text tx_line told_tx_out
accepted_text_lem s t₁ t₂ t₃ v x B B' a p q e r =
    lay_then _ _ _ _ _ p (lay_then _ _ _ _ _ q (r ∙ ap (λ (o : TxOut). lay t₂ (tx_line o)) (tx_out_one (tx_out a B') (unsigned_tx_def v x fresh [] B) e)))

-- by the parse
module _ (s t : Spot) (f P M B P' M' : List ℕ) (r : Parsed) (e : told_with (told_parsed r) P' M' ≡ told_parse (parsed f P M)) where
  text_is : parsed_text B f (out r P' M') ≡ dump_in P M B f
  unfolding dump_in told_parse
  text_is = ap (parsed_text B f) (parse_out_one (out r P' M') (parsed f P M) e)

  pub parsed_refused : (x : PsbtError) (p m : ℕ) → r ≡ Refused x p m → t ≡ lay s (refused_line x) → t ≡ lay s (dump_in P M B f)
  unfolding parsed_text
  parsed_refused x p m w h = h ∙ ap (lay s) (sym (ap (λ (r : Parsed). parsed_text B f (out r P' M')) w) ∙ text_is)

  pub parsed_accepted : (x : Psbt) (p m : ℕ) → r ≡ Accepted x p m → t ≡ lay s (accepted_text (view f P' M' x) x B) → t ≡ lay s (dump_in P M B f)
  unfolding parsed_text
  parsed_accepted x p m w h = h ∙ ap (lay s) (sym (ap (λ (r : Parsed). parsed_text B f (out r P' M')) w) ∙ text_is)

pub ruleset by_parse = (parsed_refused, parsed_accepted)

-- by the file's length
module _ (s t : Spot) (f : List ℕ) where
  pub dump_long : longest < length f → t ≡ lay s (refused_line TooLong) → t ≡ lay s (dump f)
  unfolding dump
  dump_long h e = e ∙ sym (rw (lt-ltb longest (length f) h))

  pub dump_short : length f ≤ longest → (P M B : List ℕ) → P ≡ pair_room → M ≡ map_room → B ≡ tx_room → t ≡ lay s (dump_in P M B f) → t ≡ lay s (dump f)
  unfolding dump
  dump_short h P M B p m b e = e ∙ rw (p, m, b) (sym (rw (le-ltb longest (length f) h)))

pub ruleset by_length = (dump_long, dump_short)
