-- Laws of lines: pieces that were put one after the other are the line that they make.
use mathlib.Core.Path.{◌≡◌, sym, ◌∙◌, ap}
use mathlib.Core.List.{List, ◌++◌}
use Prim.Native.Nat.{ℕ}
use Rattle.text.specs.Spots.{Spot, lay}
use Rattle.text.proofs.Lays.{lay_then}

pub chain2 : (s t₁ t₂ : Spot) (w a b : List ℕ) → t₁ ≡ lay s a → t₂ ≡ lay t₁ b → w ≡ a ++ b → t₂ ≡ lay s w
chain2 s t₁ t₂ w a b p₁ p₂ e = lay_then _ _ _ _ _ p₁ p₂ ∙ ap (lay s) (sym e)

pub chain3 : (s t₁ t₂ t₃ : Spot) (w a b c : List ℕ) → t₁ ≡ lay s a → t₂ ≡ lay t₁ b → t₃ ≡ lay t₂ c → w ≡ a ++ (b ++ c) → t₃ ≡ lay s w
chain3 s t₁ t₂ t₃ w a b c p₁ p₂ p₃ e = chain2 s t₁ t₃ w a (b ++ c) p₁ (lay_then _ _ _ _ _ p₂ p₃) e

pub chain4 : (s t₁ t₂ t₃ t₄ : Spot) (w a b c d : List ℕ) → t₁ ≡ lay s a → t₂ ≡ lay t₁ b → t₃ ≡ lay t₂ c → t₄ ≡ lay t₃ d → w ≡ a ++ (b ++ (c ++ d))
    → t₄ ≡ lay s w
chain4 s t₁ t₂ t₃ t₄ w a b c d p₁ p₂ p₃ p₄ e = chain3 s t₁ t₂ t₄ w a b (c ++ d) p₁ p₂ (lay_then _ _ _ _ _ p₃ p₄) e

pub chain5 : (s t₁ t₂ t₃ t₄ t₅ : Spot) (w a b c d f : List ℕ) → t₁ ≡ lay s a → t₂ ≡ lay t₁ b → t₃ ≡ lay t₂ c → t₄ ≡ lay t₃ d → t₅ ≡ lay t₄ f
    → w ≡ a ++ (b ++ (c ++ (d ++ f)))
    → t₅ ≡ lay s w
chain5 s t₁ t₂ t₃ t₄ t₅ w a b c d f p₁ p₂ p₃ p₄ p₅ e = chain4 s t₁ t₂ t₃ t₅ w a b c (d ++ f) p₁ p₂ p₃ (lay_then _ _ _ _ _ p₄ p₅) e

pub chain6 : (s t₁ t₂ t₃ t₄ t₅ t₆ : Spot) (w a b c d f g : List ℕ) → t₁ ≡ lay s a → t₂ ≡ lay t₁ b → t₃ ≡ lay t₂ c → t₄ ≡ lay t₃ d → t₅ ≡ lay t₄ f
    → t₆ ≡ lay t₅ g
    → w ≡ a ++ (b ++ (c ++ (d ++ (f ++ g)))) → t₆ ≡ lay s w
chain6 s t₁ t₂ t₃ t₄ t₅ t₆ w a b c d f g p₁ p₂ p₃ p₄ p₅ p₆ e = chain5 s t₁ t₂ t₃ t₄ t₆ w a b c d (f ++ g) p₁ p₂ p₃ p₄ (lay_then _ _ _ _ _ p₅ p₆) e
