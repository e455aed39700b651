-- The UTC date of seconds since the start of 1970, by the leap rule, as text in ASCII.
use Rattle.std.specs.Prelude.{ℕ, zero, suc, ◌+◌, ◌-◌, ◌/◌, ◌%◌, Bool, true, false, List, ◌++◌, leb, ltb, eqb}
use Rattle.format.specs.Tests.{pick}
use Rattle.text.specs.Say.{say}
use Rattle.text.specs.Spelled.{decimal}
use Rattle.utc.specs.declared.Stand.{Stand}

-- every fourth year but three of four at the hundreds
unfoldable pub leap : ℕ → Bool
leap y = pick (eqb (y % 400) 0) true (pick (eqb (y % 100) 0) false (eqb (y % 4) 0))

-- the days of year y
unfoldable pub year_length : ℕ → ℕ
year_length y = pick (leap y) 366 365

-- a month of 30 days: April, June, September, November
unfoldable pub is_short : ℕ → Bool
is_short m = pick (eqb m 4) true (pick (eqb m 6) true (pick (eqb m 9) true (eqb m 11)))

-- the days of month m of year y
unfoldable pub month_length : ℕ → ℕ → ℕ
month_length y m = pick (eqb m 2) (pick (leap y) 29 28) (pick (is_short m) 30 31)

-- the year of day d, counted from 1 at the start of year y, at most n years later
unfoldable pub year_from : ℕ → ℕ → ℕ → Stand
year_from zero y d = record { number = y; day = d }
year_from (suc n) y d = pick (leb d (year_length y)) (record { number = y; day = d }) (year_from n (y + 1) (d - year_length y))

-- the year of day d, counted from 1 at the start of 1970: no year has fewer than 365 days
unfoldable pub year_of : ℕ → Stand
year_of d = year_from (d / 365) 1970 d

-- the month of day d, counted from 1 at the start of month m of year y, at most n months later
unfoldable pub month_from : ℕ → ℕ → ℕ → ℕ → Stand
month_from y zero m d = record { number = m; day = d }
month_from y (suc n) m d = pick (leb d (month_length y m)) (record { number = m; day = d }) (month_from y n (m + 1) (d - month_length y m))

-- the month of day d of year y
unfoldable pub month_of : ℕ → ℕ → Stand
month_of y d = month_from y 11 1 d

-- a number in two digits or more
unfoldable pub two_digits : ℕ → List ℕ
two_digits n = pick (ltb n 10) (say "0" ++ decimal n) (decimal n)

-- year, month and day, as 1970-01-01
unfoldable pub ymd_text : ℕ → ℕ → ℕ → List ℕ
ymd_text y m d = decimal y ++ (say "-" ++ (two_digits m ++ (say "-" ++ two_digits d)))

-- the same of a month and a day of year y
unfoldable pub month_text : ℕ → Stand → List ℕ
month_text y m = ymd_text y m.number m.day

-- the same of day d, counted from 1 at the start of 1970
unfoldable pub day_text : ℕ → List ℕ
day_text d = month_text (year_of d).number (month_of (year_of d).number (year_of d).day)

-- hour, minute and second, as 00:00:00
unfoldable pub hour_text : ℕ → List ℕ
hour_text s = two_digits (s / 3600 % 24) ++ (say ":" ++ (two_digits (s / 60 % 60) ++ (say ":" ++ two_digits (s % 60))))

-- the date, as 1970-01-01 00:00:00 UTC
unfoldable pub date_text : ℕ → List ℕ
date_text s = day_text (s / 86400 + 1) ++ (say " " ++ (hour_text s ++ say " UTC"))
