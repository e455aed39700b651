-- Which refusals are given.
use Rattle.std.specs.Prelude.{◌≡◌, Bool, true, not, ◌&&◌, [], ◌∷◌}
use Rattle.format.specs.Refusals.{number_of}
use Rattle.format.specs.Rules.{span, within}
use Rattle.format.specs.declared.PsbtError.{PsbtError}

-- a refusal that some call gives: all but 4, 9 to 12, 15, 16 and 20
unfoldable pub given : PsbtError → Bool
given e = not (within (span 4 4 ∷ span 9 12 ∷ span 15 16 ∷ span 20 20 ∷ []) (number_of e))

-- a refusal that a file gives, whatever the room: neither 14 nor 19 nor 22 to 25
unfoldable pub of_file : PsbtError → Bool
of_file e = given e && not (within (span 14 14 ∷ span 19 19 ∷ span 22 25 ∷ []) (number_of e))

-- an answer is a refusal, made by R, only with a refusal that is given
abbrev pub Gives : {A : Type 0} → (PsbtError → A) → A → Type 0
Gives R x = (e : PsbtError) → x ≡ R e → given e ≡ true
