-- How long a date's text is: two digits for each number but the year, which has at most 20.
use Prim.Native.Nat.{ℕ, zero, suc, ◌+◌, ◌-◌, ◌*◌, ◌/◌, ◌%◌, ◌≤◌, ◌<◌}
use mathlib.Core.List.{List}
use native.Mathlib.Omega.{arith}
use borrow.Author.Tests.{leb-true, ltb-true}
use lib.Dec.{leb, ltb, eqb}
use lib.ListN.{length, length-append}
use Rattle.format.proofs.Tests.{pick_by}
use Rattle.text.proofs.Sizes.{decimal_most, decimal_few}
use Rattle.utc.specs.declared.Stand.{Stand}
use Rattle.utc.specs.Dates.{leap, year_length, is_short, month_length, year_from, year_of, month_from, month_of}
use Rattle.utc.specs.Dates.{two_digits, ymd_text, month_text, day_text, hour_text, date_text}
use Rattle.utc.proofs.Stands.{year_least}

-- a number below 100
two_most : (n : ℕ) → n < 100 → length (two_digits n) ≤ 2
unfolding two_digits
two_most n h =
    pick_by (λ (l : List ℕ). length l ≤ 2) (ltb n 10) _ _ (λ q. omega (arith, decimal_few 0 n (ltb-true n 10 q))) (λ q. decimal_few 1 n h)

-- the day of a year, by the years that may pass
year_most : (y : ℕ) → year_length y ≤ 366
unfolding year_length
year_most y = pick_by (λ (n : ℕ). n ≤ 366) (leap y) 366 365 (λ h. omega arith) (λ h. omega arith)

year_from_lem : (n y d : ℕ) → d ≤ (n + 1) * 365 → (year_from n y d).day ≤ 366
unfolding year_from
year_from_lem zero y d h = omega arith
year_from_lem (suc n) y d h =
    pick_by (λ (s : Stand). s.day ≤ 366) (leb d (year_length y)) _ _
    (λ q. omega (arith, leb-true d (year_length y) q, year_most y))
    (λ q. year_from_lem n (y + 1) (d - year_length y) (omega (arith, year_least y)))

year_of_lem : (d : ℕ) → (year_of d).day ≤ 366
unfolding year_of
year_of_lem d = year_from_lem (d / 365) 1970 d (omega arith)

-- the month, by the months that may pass, and its day
abbrev Month : ℕ → Type 0
Month n = (28 ≤ n) × (n ≤ 31)

month_in : (y m : ℕ) → Month (month_length y m)
unfolding month_length
month_in y m =
    pick_by Month (eqb m 2) _ _
    (λ h. pick_by Month (leap y) 29 28 (λ q. (omega arith, omega arith)) (λ q. (omega arith, omega arith)))
    (λ h. pick_by Month (is_short m) 30 31 (λ q. (omega arith, omega arith)) (λ q. (omega arith, omega arith)))

month_from_lem : (y n m d : ℕ) → d ≤ 58 + 28 * n → ((month_from y n m d).number ≤ m + n) × ((month_from y n m d).day ≤ 58)
unfolding month_from
month_from_lem y zero m d h = (omega arith, omega arith)
month_from_lem y (suc n) m d h =
    pick_by (λ (s : Stand). (s.number ≤ m + suc n) × (s.day ≤ 58)) (leb d (month_length y m)) _ _
    (λ q. (omega arith, omega (arith, leb-true d (month_length y m) q, (month_in y m).1)))
    (λ q. let i = month_from_lem y n (m + 1) (d - month_length y m) (omega (arith, (month_in y m).0)) in (omega (arith, i.0), i.1))

month_of_lem : (y d : ℕ) → d ≤ 366 → ((month_of y d).number ≤ 12) × ((month_of y d).day ≤ 58)
unfolding month_of
month_of_lem y d h = month_from_lem y 11 1 d (omega arith)

-- a day, an hour, and both
day_most : (d : ℕ) → length (day_text d) ≤ 26
unfolding day_text month_text ymd_text
day_most d =
    let m = month_of_lem (year_of d).number (year_of d).day (year_of_lem d) in
    let a = two_most (month_of (year_of d).number (year_of d).day).number (omega (arith, m.0)) in
    let b = two_most (month_of (year_of d).number (year_of d).day).day (omega (arith, m.1)) in
    simp length-append (omega (arith, decimal_most (year_of d).number, a, b))

hour_most : (s : ℕ) → length (hour_text s) ≤ 8
unfolding hour_text
hour_most s = simp length-append (omega (arith, two_most (s / 3600 % 24) (omega arith), two_most (s / 60 % 60) (omega arith), two_most (s % 60) (omega arith)))

pub date_most : (s : ℕ) → length (date_text s) ≤ 39
unfolding date_text
date_most s = simp length-append (omega (arith, day_most (s / 86400 + 1), hour_most s))
