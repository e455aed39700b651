-- Laws of the walks over years and months: the year of a day, from where the walk stands, is the year of the day it began with.
use mathlib.Core.Path.{◌≡◌, refl, sym, ◌∙◌, ap}
use Prim.Native.Nat.{ℕ, zero, suc, ◌+◌, ◌-◌, ◌*◌, ◌/◌, ◌≤◌, ◌<◌}
use native.Mathlib.Omega.{arith}
use borrow.Author.Tests.{le-leb, lt-leb}
use mir.Syntax.{w64}
use mir.Val.{Fits}
use Rattle.format.proofs.Tests.{pick_by}
use Rattle.utc.specs.declared.Stand.{Stand}
use Rattle.utc.specs.Dates.{leap, year_length, month_length, year_from, year_of, month_from, month_of}

abbrev stand : ℕ → ℕ → Stand
stand n d = record { number = n; day = d }

pub year_least : (y : ℕ) → 365 ≤ year_length y
unfolding year_length
year_least y = pick_by (λ (n : ℕ). 365 ≤ n) (leap y) 366 365 (λ h. omega arith) (λ h. omega arith)

-- the walk over years
pub record Years (d₀ y d : ℕ) : Type 0 where
  pub late : y ≤ 1970 + d₀ / 365
  pub is : year_from (1970 + d₀ / 365 - y) y d ≡ year_of d₀

pub years_first : (d : ℕ) → Years d 1970 d
unfolding year_of
years_first d = let e : 1970 + d / 365 - 1970 ≡ d / 365 = omega arith in record { late = omega arith; is = rw e }

module _ (d₀ y d : ℕ) (k : Years d₀ y d) where
  pub years_last : 1970 + d₀ / 365 ≤ y → stand (1970 + d₀ / 365) d ≡ year_of d₀
  unfolding year_from
  years_last h =
      let z : 1970 + d₀ / 365 - y ≡ 0 = omega arith in
      let e : 1970 + d₀ / 365 ≡ y = omega (arith, k.late) in
      ap (λ (n : ℕ). stand n d) e ∙ sym (ap (λ (n : ℕ). year_from n y d) z) ∙ k.is

  module _ (h : y < 1970 + d₀ / 365) (l : ℕ) (q : l ≡ year_length y) where
    turn_year : year_from (suc (1970 + d₀ / 365 - (y + 1))) y d ≡ year_of d₀
    turn_year =
        let n : suc (1970 + d₀ / 365 - (y + 1)) ≡ 1970 + d₀ / 365 - y = omega arith in
        ap (λ (x : ℕ). year_from x y d) n ∙ k.is

    pub years_found : d ≤ l → stand y d ≡ year_of d₀
    unfolding year_from
    years_found g = let r : d ≤ year_length y = omega (arith, q) in sym (rw (le-leb d (year_length y) r)) ∙ turn_year

    pub years_more : l < d → Years d₀ (y + 1) (d - l)
    unfolding year_from
    years_more g =
        let r : year_length y < d = omega (arith, q) in
        record {
          late = omega arith;
          is =
              ap (λ (x : ℕ). year_from (1970 + d₀ / 365 - (y + 1)) (y + 1) (d - x)) q
              ∙ sym (rw (lt-leb d (year_length y) r))
              ∙ turn_year;
        }

pub ruleset years = (years_first, years_last, years_found, years_more)

-- the walk over the months of a year
pub record Months (y d₀ m d : ℕ) : Type 0 where
  pub most : m ≤ 12
  pub is : month_from y (12 - m) m d ≡ month_of y d₀

pub months_first : (y d : ℕ) → Months y d 1 d
unfolding month_of
months_first y d = record { most = omega arith; is = refl }

module _ (y d₀ m d : ℕ) (k : Months y d₀ m d) where
  pub months_last : 12 ≤ m → stand 12 d ≡ month_of y d₀
  unfolding month_from
  months_last h =
      let z : 12 - m ≡ 0 = omega arith in
      let e : 12 ≡ m = omega (arith, k.most) in
      ap (λ (n : ℕ). stand n d) e ∙ sym (ap (λ (n : ℕ). month_from y n m d) z) ∙ k.is

  module _ (h : m < 12) (l : ℕ) (q : l ≡ month_length y m) where
    turn_month : month_from y (suc (12 - (m + 1))) m d ≡ month_of y d₀
    turn_month = let n : suc (12 - (m + 1)) ≡ 12 - m = omega arith in ap (λ (x : ℕ). month_from y x m d) n ∙ k.is

    pub months_found : d ≤ l → stand m d ≡ month_of y d₀
    unfolding month_from
    months_found g = let r : d ≤ month_length y m = omega (arith, q) in sym (rw (le-leb d (month_length y m) r)) ∙ turn_month

    pub months_more : l < d → Months y d₀ (m + 1) (d - l)
    unfolding month_from
    months_more g =
        let r : month_length y m < d = omega (arith, q) in
        record {
          most = omega arith;
          is = ap (λ (x : ℕ). month_from y (12 - (m + 1)) (m + 1) (d - x)) q ∙ sym (rw (lt-leb d (month_length y m) r)) ∙ turn_month;
        }

pub ruleset months = (months_first, months_last, months_found, months_more)
