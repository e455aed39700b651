-- Rows of computed examples: what a definition gives, beside what it is to give.
use Rattle.std.specs.Prelude.{◌≡◌, List, map}

-- an example
pub record Row (A : Type 0) : Type 0 where
  pub given : A
  pub expected : A

-- an example of two values, the computed one first
abbrev pub is : {A : Type 0} → A → A → Row A
is a b = record { given = a; expected = b }

-- the claim on a list of examples: each gives what it is to give
abbrev pub Hold : {A : Type 0} → List (Row A) → Type 0
Hold {A} rows = map (λ (r : Row A). r.given) rows ≡ map (λ (r : Row A). r.expected) rows
