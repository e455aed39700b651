-- Laws of text that a case decides, and of a refusal's line.
use mathlib.Core.Path.{◌≡◌, refl, sym, ◌∙◌, ap}
use mathlib.Core.List.{List}
use Prim.Native.Nat.{ℕ}
use Rattle.format.specs.Refusals.{number_of}
use Rattle.format.specs.declared.PsbtError.{PsbtError}
use Rattle.format.specs.declared.PsbtError.TheVariants.{InvalidMagic, UnexpectedEof, InvalidCompactSize, MapTerminatorMissing, DuplicateKey}
use Rattle.format.specs.declared.PsbtError.TheVariants.{UnsortedKeys, BadValue, MissingCounts, MissingOutputIndex, MissingRedeemScript}
use Rattle.format.specs.declared.PsbtError.TheVariants.{MissingWitnessScript, CountsTooLarge, NotAllowed, OutOfRange, UnknownOutputType}
use Rattle.format.specs.declared.PsbtError.TheVariants.{Unsupported, MissingOutputScript, InvalidSilentPayment, InvalidOutputScripts}
use Rattle.format.specs.declared.PsbtError.TheVariants.{InvalidSighashType, TooLong, PairsFull, MapsFull, BadIndex, NoRoom}
use Rattle.text.specs.Spots.{Spot, lay}
use Rattle.text.specs.Say.{newline, lines}
use Rattle.text.specs.Spelled.{digit, decimal_in, decimal}
use Rattle.text.proofs.Chains.{chain5}
use Rattle.reasons.specs.Rows.{front, rest, behind, line}
use Rattle.reasons.specs.Reasons.{say_refused, say_that, meanings, meaning, refused_line}

-- text that a case decides, by the text of that case
pub by_case : {A : Type 0} (say : A → List ℕ) (s t : Spot) (x y : A) (b : List ℕ) → x ≡ y → b ≡ say y → t ≡ lay s b → t ≡ lay s (say x)
by_case say s t x y b e q h = h ∙ ap (lay s) (q ∙ sym (ap say e))

-- the line with a refusal's number is what it means
in_lines : (e : PsbtError) → line (number_of e) (lines meanings) ≡ meaning e
unfolding digit decimal_in decimal line front rest behind meaning number_of
in_lines InvalidMagic = refl
in_lines UnexpectedEof = refl
in_lines InvalidCompactSize = refl
in_lines MapTerminatorMissing = refl
in_lines DuplicateKey = refl
in_lines UnsortedKeys = refl
in_lines BadValue = refl
in_lines MissingCounts = refl
in_lines MissingOutputIndex = refl
in_lines MissingRedeemScript = refl
in_lines MissingWitnessScript = refl
in_lines CountsTooLarge = refl
in_lines NotAllowed = refl
in_lines OutOfRange = refl
in_lines UnknownOutputType = refl
in_lines Unsupported = refl
in_lines MissingOutputScript = refl
in_lines InvalidSilentPayment = refl
in_lines InvalidOutputScripts = refl
in_lines InvalidSighashType = refl
in_lines TooLong = refl
in_lines PairsFull = refl
in_lines MapsFull = refl
in_lines BadIndex = refl
in_lines NoRoom = refl

-- so what is put of that line is what the refusal means
pub meaning_by : (s t : Spot) (e : PsbtError) (n : ℕ) (b : List ℕ) → n ≡ number_of e → b ≡ line n (lines meanings) → t ≡ lay s b → t ≡ lay s (meaning e)
meaning_by s t e n b q l h = h ∙ ap (lay s) (l ∙ ap (λ (m : ℕ). line m (lines meanings)) q ∙ in_lines e)

-- a refusal's line, by its number
pub refused_line_lem : (s t₁ t₂ t₃ t₄ t₅ : Spot) (e : PsbtError) (n : ℕ) → n ≡ number_of e → t₁ ≡ lay s say_refused → t₂ ≡ lay t₁ (decimal n)
    → t₃ ≡ lay t₂ say_that
    → t₄ ≡ lay t₃ (meaning e) → t₅ ≡ lay t₄ newline
    → t₅ ≡ lay s (refused_line e)
unfolding refused_line
refused_line_lem s t₁ t₂ t₃ t₄ t₅ e n q a b c d f = chain5 s t₁ t₂ t₃ t₄ t₅ _ _ _ _ _ _ a (b ∙ ap (λ (m : ℕ). lay t₁ (decimal m)) q) c d f refl
