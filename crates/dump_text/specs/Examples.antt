-- Dumps that the definition gives, computed.
use Rattle.std.specs.Prelude.{ℕ, ◌≡◌, refl, List, [], ◌∷◌}
use Rattle.format.specs.ExampleFiles.{file_e, file_f, file_f_with, script, time}
use Rattle.format.specs.Computed.{computes}
use Rattle.rooms.specs.Rooms.{zeros}
use Rattle.text.specs.Say.{say, lines}
use Rattle.text.specs.Spelled.{digit, hex_byte, hex, hex_or_dash, decimal_in, decimal, signed_decimal}
use Rattle.dump_text.specs.Lines.{refused_line, version_text, counts_text, head_line, map_line, key_text, pair_text, pair_line}
use Rattle.dump_text.specs.Lines.{pairs_text, map_text, map_then, maps_text, unsigned_text, unsigned_line}
use Rattle.dump_text.specs.Dump.{tx_line, accepted_text, parsed_text, dump_in, dump}

-- all that a dump is made of
unfoldable pub prints : List ℕ → List ℕ
unfolding computes digit hex_byte hex hex_or_dash decimal_in decimal signed_decimal refused_line version_text counts_text head_line map_line key_text pair_text
    pair_line pairs_text map_text map_then maps_text unsigned_text unsigned_line zeros tx_line accepted_text parsed_text dump_in dump
prints = dump

-- the text of E
abbrev pub text_e : List ℕ
text_e =
    lines
    (say "psbt 2 tx 2 inputs 0 outputs 0"
    ∷ say "map 0 pairs 4"
    ∷ say "02 - 02000000"
    ∷ say "04 - 00"
    ∷ say "05 - 00"
    ∷ say "fb - 02000000"
    ∷ say "unsigned 02000000000000000000"
    ∷ [])

-- the text of F
abbrev pub text_f : List ℕ
text_f =
    lines
    (say "psbt 2 tx 2 inputs 1 outputs 1"
    ∷ say "map 0 pairs 4"
    ∷ say "02 - 02000000"
    ∷ say "04 - 01"
    ∷ say "05 - 01"
    ∷ say "fb - 02000000"
    ∷ say "map 1 pairs 2"
    ∷ say "0e - 1111111111111111111111111111111111111111111111111111111111111111"
    ∷ say "0f - 00000000"
    ∷ say "map 2 pairs 2"
    ∷ say "03 - e803000000000000"
    ∷ say "04 - 51"
    ∷ say "unsigned 020000000111111111111111111111111111111111111111111111111111111111111111110000000000ffffffff01e803000000000000015100000000"
    ∷ [])

-- E prints so
pub dump_e : dump file_e ≡ text_e
unfolding prints
dump_e = refl

-- so does F
pub dump_f : dump file_f ≡ text_f
unfolding prints
dump_f = refl

-- and an empty file
pub dump_empty : dump [] ≡ lines (say "refused 1" ∷ [])
unfolding prints
dump_empty = refl

-- the text of F with a required time that is too small: its transaction is refused
abbrev pub text_early : List ℕ
text_early =
    lines
    (say "psbt 2 tx 2 inputs 1 outputs 1"
    ∷ say "map 0 pairs 4"
    ∷ say "02 - 02000000"
    ∷ say "04 - 01"
    ∷ say "05 - 01"
    ∷ say "fb - 02000000"
    ∷ say "map 1 pairs 3"
    ∷ say "0e - 1111111111111111111111111111111111111111111111111111111111111111"
    ∷ say "0f - 00000000"
    ∷ say "11 - ff64cd1d"
    ∷ say "map 2 pairs 2"
    ∷ say "03 - e803000000000000"
    ∷ say "04 - 51"
    ∷ say "unsigned refused 7"
    ∷ [])

-- so it prints
pub dump_early : dump (file_f_with [] (time 499_999_999) script) ≡ text_early
unfolding prints
dump_early = refl
