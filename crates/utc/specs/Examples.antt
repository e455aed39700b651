-- Dates that the definitions give, computed.
use Rattle.std.specs.Prelude.{◌≡◌, refl, [], ◌∷◌, map}
use Rattle.text.specs.Say.{say}
use Rattle.text.specs.Spelled.{digit, decimal_in, decimal}
use Rattle.utc.specs.Dates.{leap, year_length, is_short, month_length, year_from, year_of, month_from, month_of}
use Rattle.utc.specs.Dates.{two_digits, ymd_text, month_text, day_text, hour_text, date_text}

-- the first second, the last of the first day, the next day, a leap day of a year of hundreds, a day of 2023, the last second of 32 bits
pub date_example : map date_text (0 ∷ 86399 ∷ 86400 ∷ 951782400 ∷ 1700000000 ∷ 4294967295 ∷ [])
    ≡ say "1970-01-01 00:00:00 UTC"
    ∷ say "1970-01-01 23:59:59 UTC"
    ∷ say "1970-01-02 00:00:00 UTC"
    ∷ say "2000-02-29 00:00:00 UTC"
    ∷ say "2023-11-14 22:13:20 UTC"
    ∷ say "2106-02-07 06:28:15 UTC"
    ∷ []
unfolding digit decimal_in decimal leap year_length is_short month_length year_from year_of month_from month_of two_digits ymd_text month_text day_text
    hour_text date_text
date_example = refl
