-- Texts that the definition gives, computed.
use Rattle.std.specs.Prelude.{ℕ, ◌≡◌, refl, List, [], ◌∷◌, ◌++◌}
use Rattle.format.specs.ExampleFiles.{file_f, file_f_with, fallback, script, output_index, time, height}
use Rattle.format.specs.Numbers.{bytes_of}
use Rattle.format.specs.Computed.{computes}
use Rattle.format.specs.Tables.{Held, held_input}
use Rattle.format.specs.Lookups.{place, length_fits, of_length_def, asked, number_at}
use Rattle.format.specs.Fields.{part_field_def, number_field, sequence, required_height_locktime, required_time_locktime}
use Rattle.format.specs.Transaction.{lock_by, lock_decided}
use Rattle.format.specs.Answers.{Decided, Numbered, UnsignedTx}
use Rattle.text.specs.Say.{say, lines}
use Rattle.text.specs.Spelled.{digit, decimal_in, decimal}
use Rattle.utc.specs.Dates.{leap, year_length, is_short, month_length, year_from, year_of, month_from, month_of}
use Rattle.utc.specs.Dates.{two_digits, ymd_text, month_text, day_text, hour_text, date_text}
use Rattle.rooms.specs.Rooms.{zeros}
use Rattle.reasons.specs.Reasons.{meaning, refused_line}
use Rattle.stop_lines.specs.Examples.{stops}
use Rattle.lock_lines.specs.Lines.{height_number, time_number, lock_text, fallback_text, head_line, height_text, time_text}
use Rattle.lock_lines.specs.Lines.{input_line, lack_text, tx_line, outcome, fallback_decided, height_decided, time_decided}
use Rattle.lock_lines.specs.Lines.{both_line, too_great_line, too_small_line, malformed_line, verdict}
use Rattle.heed_lines.specs.declared.Heed.{Heed}
use Rattle.heed_lines.specs.Heeds.{is_final, heed_from, sequence_of, heed_of, heed_text, number_decided, heed_line}
use Rattle.why_text.specs.Why.{height_asked, time_asked, inputs_text, answered, accepted_text, refused_text, parsed_text, why_in, why}

-- all that a lookup of an input's number is made of
unfoldable pub looks_up : List ℕ → Held → Numbered
unfolding held_input place length_fits of_length_def asked number_at part_field_def number_field sequence required_height_locktime required_time_locktime
looks_up = sequence

-- all that a date is made of
unfoldable pub dates : ℕ → List ℕ
unfolding digit decimal_in decimal leap year_length is_short month_length year_from year_of month_from month_of two_digits ymd_text month_text day_text
    hour_text date_text
dates = date_text

-- all that the head and the lines of inputs are made of
unfoldable pub asks : (ℕ → Numbered) → (ℕ → Numbered) → ℕ → ℕ → List ℕ
unfolding height_number time_number lock_text fallback_text head_line height_text time_text input_line height_asked time_asked inputs_text
asks = inputs_text

-- all that a verdict is made of, but for the numbers in it
unfoldable pub judges : Decided → UnsignedTx → List ℕ
unfolding lack_text tx_line outcome fallback_decided height_decided time_decided both_line too_great_line too_small_line malformed_line verdict
judges = verdict

-- all that the last line is made of
unfoldable pub heeds : Decided → Heed → List ℕ
unfolding is_final heed_from sequence_of heed_of heed_text number_decided heed_line
heeds = heed_line

-- all that a text is made of
unfoldable pub prints : List ℕ → List ℕ
unfolding computes looks_up dates asks judges heeds lock_by lock_decided zeros meaning refused_line answered accepted_text parsed_text why_in why
prints = why

-- the text of F
abbrev pub text_f : List ℕ
text_f =
    lines
    (say "inputs 1, fallback none"
    ∷ say "input 0 asks no height and no time"
    ∷ say "no input asks for a lock: the fallback decides"
    ∷ say "lock time 0: none"
    ∷ say "transaction of 61 bytes"
    ∷ [])

-- so F prints
pub why_f : why file_f ≡ text_f
unfolding prints
why_f = refl

-- the text of F with a time of a clock that fell back to 1970
abbrev pub text_clock : List ℕ
text_clock =
    lines
    (say "inputs 1, fallback none"
    ∷ say "input 0 asks no height and time 86400 (1970-01-02 00:00:00 UTC)"
    ∷ say "input 0 asks time 86400, which is below 500000000 and would be read as a block height: refused 7"
    ∷ [])

-- so it prints: refused, by the field of input 0
pub why_clock : why (file_f_with [] (time 86_400) script) ≡ text_clock
unfolding prints
why_clock = refl

-- the text of F with a height beside a fallback
abbrev pub text_height : List ℕ
text_height =
    lines
    (say "inputs 1, fallback time 1700000000 (2023-11-14 22:13:20 UTC)"
    ∷ say "input 0 asks height 800000 and no time"
    ∷ say "the greatest height asked decides: input 0"
    ∷ say "lock height 800000"
    ∷ say "transaction of 61 bytes"
    ∷ say "the network ignores this lock, the transaction may be spent at once: no input has a sequence below ffffffff"
    ∷ [])

-- so it prints: the height decides, and since the input has no sequence, the network ignores it
pub why_height : why (file_f_with (fallback 1_700_000_000) (height 800_000) script) ≡ text_height
unfolding prints
why_height = refl

-- the text of F with its output index twice
abbrev pub text_twice : List ℕ
text_twice = lines (say "refused 5: a key stands twice" ∷ say "stopped in input 0, after 2 pairs" ∷ [])

-- all that the text of a refused file is made of besides
unfoldable pub prints_refused : List ℕ → List ℕ
unfolding prints stops refused_text
prints_refused = why

-- so it prints: refused, in input 0
pub why_twice : why (file_f_with [] output_index script) ≡ text_twice
unfolding prints_refused
why_twice = refl

-- an input's sequence
abbrev pub sequenced : ℕ → List ℕ
sequenced n = 1 ∷ 0x10 ∷ 4 ∷ bytes_of 4 n

-- the text of F with a time of 2030 and the sequence fffffffe
abbrev pub text_heeded : List ℕ
text_heeded =
    lines
    (say "inputs 1, fallback none"
    ∷ say "input 0 asks no height and time 1893456000 (2030-01-01 00:00:00 UTC)"
    ∷ say "the greatest time asked decides: input 0"
    ∷ say "lock time 1893456000 (2030-01-01 00:00:00 UTC)"
    ∷ say "transaction of 61 bytes"
    ∷ say "the network heeds this lock: input 0 has a sequence below ffffffff"
    ∷ [])

-- so it prints: the network heeds the time
pub why_heeded : why (file_f_with [] (sequenced 0xffff_fffe ++ time 1_893_456_000) script) ≡ text_heeded
unfolding prints
why_heeded = refl
