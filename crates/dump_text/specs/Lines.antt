-- The lines of the dump, in ASCII. A line ends with a newline.
use Rattle.std.specs.Prelude.{ℕ, zero, suc, ◌+◌, List, [], ◌∷◌, ◌++◌, ℤ, length, take, Ok, Err}
use Rattle.format.specs.Keys.{type_of, data_of}
use Rattle.format.specs.Content.{Pair}
use Rattle.format.specs.Refusals.{number_of}
use Rattle.format.specs.Tables.{View, hides, shows}
use Rattle.format.specs.declared.PsbtError.{PsbtError}
use Rattle.format.specs.declared.Psbt.{Psbt}
use Rattle.format.specs.Answers.{UnsignedTx}
use Rattle.text.specs.Say.{say, newline}
use Rattle.text.specs.Spelled.{hex_byte, hex_or_dash, decimal, signed_decimal}

-- between words
abbrev pub space : List ℕ
space = say " "

-- before a refusal's number
abbrev pub say_refused : List ℕ
say_refused = say "refused "

-- before the transaction's version: an accepted file has version 2
abbrev pub say_psbt : List ℕ
say_psbt = say "psbt 2 tx "

-- before the number of inputs
abbrev pub say_inputs : List ℕ
say_inputs = say " inputs "

-- before the number of outputs
abbrev pub say_outputs : List ℕ
say_outputs = say " outputs "

-- before a map's number
abbrev pub say_map : List ℕ
say_map = say "map "

-- before the number of its pairs
abbrev pub say_pairs : List ℕ
say_pairs = say " pairs "

-- before the transaction
abbrev pub say_unsigned : List ℕ
say_unsigned = say "unsigned "

-- the line of a refused file
unfoldable pub refused_line : PsbtError → List ℕ
refused_line e = say_refused ++ (decimal (number_of e) ++ newline)

-- both versions
unfoldable pub version_text : ℤ → List ℕ
version_text v = say_psbt ++ signed_decimal v

-- both counts
unfoldable pub counts_text : ℕ → ℕ → List ℕ
counts_text n m = say_inputs ++ (decimal n ++ (say_outputs ++ (decimal m ++ newline)))

-- the first line: what was reported
unfoldable pub head_line : Psbt → List ℕ
head_line s = version_text s.tx_version ++ counts_text s.inputs s.outputs

-- the line of map number m with n pairs
unfoldable pub map_line : ℕ → ℕ → List ℕ
map_line m n = say_map ++ (decimal m ++ (say_pairs ++ (decimal n ++ newline)))

-- a key: its type, and its data or a dash
unfoldable pub key_text : List ℕ → List ℕ
key_text k = hex_byte (type_of k) ++ (space ++ hex_or_dash (data_of k))

-- a key, and a value or a dash
unfoldable pub pair_text : List ℕ → List ℕ → List ℕ
pair_text k v = key_text k ++ (space ++ (hex_or_dash v ++ newline))

-- the line of a pair
unfoldable pub pair_line : Pair → List ℕ
pair_line p = pair_text p.key p.value

-- the lines of pairs
unfoldable pub pairs_text : List Pair → List ℕ
pairs_text [] = []
pairs_text (p ∷ ps) = pair_line p ++ pairs_text ps

-- the lines of map number m
unfoldable pub map_text : ℕ → List Pair → List ℕ
map_text m ps = map_line m (length ps) ++ pairs_text ps

-- the lines of map number m, by what it shows, and then more; a map that shows nothing ends the maps' lines
unfoldable pub map_then : ℕ → View → List ℕ → List ℕ
map_then m (hides e) more = []
map_then m (shows ps) more = map_text m ps ++ more

-- the lines of n maps from number m on
unfoldable pub maps_text : (ℕ → View) → ℕ → ℕ → List ℕ
maps_text v m zero = []
maps_text v m (suc n) = map_then m (v m) (maps_text v (m + 1) n)

-- the transaction's bytes at the buffer's front, or a refusal's line
unfoldable pub unsigned_text : UnsignedTx → List ℕ → List ℕ
unsigned_text (Err e) B = refused_line e
unsigned_text (Ok w) B = hex_or_dash (take w.len B) ++ newline

-- the last line
unfoldable pub unsigned_line : UnsignedTx → List ℕ → List ℕ
unsigned_line x B = say_unsigned ++ unsigned_text x B
