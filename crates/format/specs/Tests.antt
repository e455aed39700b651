-- Choices by a test.
use Rattle.std.specs.Prelude.{Bool, true, false, ◌&&◌, List, [], ◌∷◌}

-- the first where the test holds, else the second
abbrev pub pick : {A : Type 0} → Bool → A → A → A
pick true a b = a
pick false a b = b

-- x in front of a list where the test holds
abbrev pub keep_if : {A : Type 0} → Bool → A → List A → List A
keep_if true x l = x ∷ l
keep_if false x l = l

-- those of a list that pass a test, in order
unfoldable pub only : {A : Type 0} → (A → Bool) → List A → List A
only t [] = []
only t (x ∷ xs) = keep_if (t x) x (only t xs)

-- all of a list pass a test
unfoldable pub every : {A : Type 0} → (A → Bool) → List A → Bool
every t [] = true
every t (x ∷ xs) = t x && every t xs
