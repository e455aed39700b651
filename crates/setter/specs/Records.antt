-- Assignments as records of three numbers, what one must be, and the first of some.
use Rattle.std.specs.Prelude.{ℕ, ◌+◌, Bool, ◌&&◌, List, [], ◌∷◌, length, leb, Option, Some, None}
use Rattle.format.specs.Scripts.{script_in, taproot}
use Rattle.format.specs.declared.Assignment.{Assignment}

-- the whole records of a list
unfoldable pub records : List ℕ → List Assignment
records [] = []
records (a ∷ []) = []
records (a ∷ b ∷ []) = []
records (a ∷ b ∷ c ∷ r) = record { output = a; start = b; len = c } ∷ records r

-- the script of an assignment lies in the buffer
unfoldable pub lies : List ℕ → Assignment → Bool
lies buffer a = leb (a.start + a.len) (length buffer)

-- and is a taproot script
unfoldable pub sound : List ℕ → Assignment → Bool
sound buffer a = lies buffer a && taproot (script_in buffer a)

-- the first of some assignments
unfoldable pub first_of : List Assignment → Option Assignment
first_of [] = None
first_of (a ∷ xs) = Some a
