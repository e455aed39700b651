-- What the programs that print a file's text have room for.
use Rattle.std.specs.Prelude.{ℕ}

-- the longest file, in bytes
abbrev pub longest : ℕ
longest = 65_536

-- the most pairs
abbrev pub most_pairs : ℕ
most_pairs = 1_024

-- the most maps
abbrev pub most_maps : ℕ
most_maps = 256
