-- An answer in the slice, whose words a call of a closure gives.
use Rattle.std.specs.Prelude.{ℕ, List, [], ◌≡◌, MatchResult}
use Rattle.format.specs.Refusals.{number_of}
use Rattle.format.specs.Told.{told}
use Rattle.format.specs.Answers.{Answer}
use Rattle.export_words.specs.Words.{Export, answered, answered_with}

-- of a refusal its number, of a value 0 and words that the closure gives of it
abbrev pub Puts : {T : Type 0} → Answer T → (T → List ℕ → Type 0) → List ℕ → Export → Type 0
Puts o W A x = MatchResult o (λ v. (w : List ℕ) × W v w × (x ≡ answered_with A 0 w)) (λ e. x ≡ answered A (told (number_of e) []))
