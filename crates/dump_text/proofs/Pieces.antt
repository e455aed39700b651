-- Laws of lines: pieces that were put one after the other are the line.
use mathlib.Core.Path.{◌≡◌, refl, ◌∙◌, ap, ap₂}
use mathlib.Core.List.{List, [], ◌∷◌}
use Prim.Native.Nat.{ℕ, ◌-◌, ◌≤◌, ◌<◌}
use native.Mathlib.Omega.{arith}
use lib.IntN.{ℤ}
use lib.ListN.{length, get_or, take, drop}
use mir.Syntax.{w32}
use mir.Val.{SFits, to_z, of_z}
use mir.Facts.{to_z-of_z}
use Rattle.format.specs.Refusals.{number_of}
use Rattle.format.specs.Keys.{type_of, data_of}
use Rattle.format.specs.Entries.{key_in_def, value_in_def, shown}
use Rattle.format.specs.declared.PsbtError.{PsbtError}
use Rattle.format.specs.declared.Psbt.{Psbt}
use Rattle.format.specs.declared.PairEntry.{PairEntry}
use Rattle.format.specs.declared.Written.{Written}
use Rattle.format.specs.Answers.{UnsignedTx}
use Rattle.std.specs.Prelude.{Ok, Err}
use Rattle.wire.proofs.Sizes.{part_rest}
use Rattle.fitness.specs.Parts.{bytes_at}
use Rattle.text.specs.Spots.{Spot, lay}
use Rattle.text.specs.Say.{say, newline}
use Rattle.text.specs.Spelled.{digit, hex_byte, hex_or_dash, decimal, signed_decimal}
use Rattle.text.proofs.Lays.{lay_then}
use Rattle.dump_text.specs.Lines.{say_refused, say_psbt, say_unsigned, refused_line, version_text, counts_text, head_line}
use Rattle.dump_text.specs.Lines.{key_text, pair_text, pair_line, unsigned_text, unsigned_line, space}

-- a refusal, the head
pub refused_line_lem : (s t₁ t₂ t₃ : Spot) (e : PsbtError) (n : ℕ) → t₁ ≡ lay s say_refused → n ≡ number_of e → t₂ ≡ lay t₁ (decimal n) → t₃ ≡ lay t₂ newline
    → t₃ ≡ lay s (refused_line e)
unfolding refused_line
refused_line_lem s t₁ t₂ t₃ e n a q b c = lay_then _ _ _ _ _ a (lay_then _ _ _ _ _ (b ∙ ap (λ (x : ℕ). lay t₁ (decimal x)) q) c)

pub version_text_lem : (s t₁ t₂ : Spot) (z y : ℤ) → SFits w32 z → y ≡ to_z w32 (of_z w32 z) → t₁ ≡ lay s say_psbt → t₂ ≡ lay t₁ (signed_decimal y)
    → t₂ ≡ lay s (version_text z)
unfolding version_text
version_text_lem s t₁ t₂ z y h q a b = lay_then _ _ _ _ _ a (b ∙ ap (λ (x : ℤ). lay t₁ (signed_decimal x)) (q ∙ to_z-of_z h))

pub head_line_lem : (s t₁ t₂ : Spot) (x : Psbt) (z : ℤ) → SFits w32 x.tx_version → z ≡ to_z w32 (of_z w32 x.tx_version) → t₁ ≡ lay s (version_text z)
    → t₂ ≡ lay t₁ (counts_text x.inputs x.outputs) → t₂ ≡ lay s (head_line x)
unfolding head_line
head_line_lem s t₁ t₂ x z h q a b = lay_then _ _ _ _ _ (a ∙ ap (λ (y : ℤ). lay s (version_text y)) (q ∙ to_z-of_z h)) b

-- a key without a byte, and one with
pub key_none : (s t : Spot) (k : List ℕ) → length k < 1 → t ≡ lay s (say "00 -") → t ≡ lay s (key_text k)
unfolding key_text type_of data_of hex_byte digit hex_or_dash
key_none s t [] h e = e
key_none s t (x ∷ k) h e = absurd (omega arith)

key_parts : (k : List ℕ) → 1 ≤ length k → (get_or k 0 0 ≡ type_of k) × (drop 1 k ≡ data_of k)
unfolding type_of data_of
key_parts [] h = absurd (omega arith)
key_parts (x ∷ k) h = (refl, refl)

pub key_some : (s t₁ t₂ t₃ : Spot) (k d : List ℕ) (b : ℕ) → 1 ≤ length k → b ≡ get_or k 0 0 → d ≡ take (length k - 1) (drop 1 k)
    → t₁ ≡ lay s (hex_byte b) → t₂ ≡ lay t₁ space → t₃ ≡ lay t₂ (hex_or_dash d) → t₃ ≡ lay s (key_text k)
unfolding key_text
key_some s t₁ t₂ t₃ k d b h p q x y z =
    let r : d ≡ data_of k = q ∙ part_rest 1 k ∙ (key_parts k h).1 in
    lay_then _ _ _ _ _ (x ∙ ap (λ (n : ℕ). lay s (hex_byte n)) (p ∙ (key_parts k h).0))
    (lay_then _ _ _ _ _ y (z ∙ ap (λ (l : List ℕ). lay t₂ (hex_or_dash l)) r))

pub ruleset keys = (key_none, key_some)

pub entry_line : (s t : Spot) (f k v : List ℕ) (e : PairEntry) → k ≡ key_in_def f e → v ≡ value_in_def f e → t ≡ lay s (pair_text k v)
    → t ≡ lay s (pair_line (shown f e))
unfolding pair_line shown
entry_line s t f k v e p q h = h ∙ ap₂ (λ (a b : List ℕ). lay s (pair_text a b)) p q

-- the last line, by the transaction's answer
module _ (s t₁ : Spot) (x : UnsignedTx) (B : List ℕ) (a : t₁ ≡ lay s say_unsigned) where
  pub unsigned_refused : (e : PsbtError) → x ≡ Err e → (t₂ : Spot) → t₂ ≡ lay t₁ (refused_line e) → t₂ ≡ lay s (unsigned_line x B)
  unfolding unsigned_line unsigned_text
  unsigned_refused e q t₂ b = lay_then _ _ _ _ _ a b ∙ rw q

  pub unsigned_written : (w : Written) → x ≡ Ok w → (b : List ℕ) → b ≡ bytes_at B 0 w.len → (t₂ t₃ : Spot) → t₂ ≡ lay t₁ (hex_or_dash b)
      → t₃ ≡ lay t₂ newline → t₃ ≡ lay s (unsigned_line x B)
  unfolding unsigned_line unsigned_text bytes_at
  unsigned_written w q b p t₂ t₃ c d = lay_then _ _ _ _ _ a (lay_then _ _ _ _ _ (c ∙ ap (λ (l : List ℕ). lay t₁ (hex_or_dash l)) p) d) ∙ rw q

pub ruleset lasts = (unsigned_refused, unsigned_written)
