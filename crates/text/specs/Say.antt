-- Texts as their codes.
use Rattle.std.specs.Prelude.{List, [] as none, ◌∷◌ as ◌then◌, ◌++◌, ℕ}
use Prim.Native.Char.{code}
use Prim.Native.String.{String, [], ◌∷◌}

-- the codes of a text
abbrev pub say : String → List ℕ
say [] = none
say (c ∷ s) = code c then say s

-- the code that ends a line
abbrev pub line_end : ℕ
line_end = code "\n"

-- the end of a line
abbrev pub newline : List ℕ
newline = line_end then none

-- texts as lines
abbrev pub lines : List (List ℕ) → List ℕ
lines none = none
lines (t then ts) = t ++ (newline ++ lines ts)
