-- Laws of the lengths of years and months, and of a date's text: pieces that were put one after the other are the text.
use mathlib.Core.Path.{◌≡◌, sym, ◌∙◌, ap}
use mathlib.Core.Bool.{Bool, true, false}
use Prim.Native.Nat.{ℕ, ◌<◌, ◌≤◌}
use borrow.Author.Tests.{lt-ltb, le-ltb, eq-eqb, ne_eqb}
use Rattle.format.proofs.Tests.{pick_yes, pick_no}
use Rattle.text.specs.Spots.{Spot, lay}
use Rattle.text.specs.Say.{say}
use Rattle.text.specs.Spelled.{decimal}
use Rattle.text.proofs.Lays.{lay_then}
use Rattle.utc.specs.declared.Stand.{Stand}
use Rattle.utc.specs.Dates.{leap, year_length, is_short, month_length, year_of, month_of, two_digits, ymd_text, month_text, day_text}

-- the lengths of years and months, by what was asked of them
pub year_long : (y : ℕ) (b : Bool) → b ≡ leap y → b ≡ true → 366 ≡ year_length y
unfolding year_length
year_long y b q h = sym (pick_yes (leap y) 366 365 (sym q ∙ h))

pub year_plain : (y : ℕ) (b : Bool) → b ≡ leap y → b ≡ false → 365 ≡ year_length y
unfolding year_length
year_plain y b q h = sym (pick_no (leap y) 366 365 (sym q ∙ h))

pub ruleset year_lengths = (year_long, year_plain)

pub february_long : (y m : ℕ) (b : Bool) → m ≡ 2 → b ≡ leap y → b ≡ true → 29 ≡ month_length y m
unfolding month_length
february_long y m b e q h = sym (rw (eq-eqb m 2 e) (pick_yes (leap y) 29 28 (sym q ∙ h)))

pub february_plain : (y m : ℕ) (b : Bool) → m ≡ 2 → b ≡ leap y → b ≡ false → 28 ≡ month_length y m
unfolding month_length
february_plain y m b e q h = sym (rw (eq-eqb m 2 e) (pick_no (leap y) 29 28 (sym q ∙ h)))

pub month_short : (y m : ℕ) (b : Bool) → (m ≡ 2 → ⊥) → b ≡ is_short m → b ≡ true → 30 ≡ month_length y m
unfolding month_length
month_short y m b e q h = sym (rw (ne_eqb m 2 e) (pick_yes (is_short m) 30 31 (sym q ∙ h)))

pub month_plain : (y m : ℕ) (b : Bool) → (m ≡ 2 → ⊥) → b ≡ is_short m → b ≡ false → 31 ≡ month_length y m
unfolding month_length
month_plain y m b e q h = sym (rw (ne_eqb m 2 e) (pick_no (is_short m) 30 31 (sym q ∙ h)))

pub ruleset month_lengths = (february_long, february_plain, month_short, month_plain)

-- one digit, or more
pub two_one : (s t₁ t₂ : Spot) (n : ℕ) → n < 10 → t₁ ≡ lay s (say "0") → t₂ ≡ lay t₁ (decimal n) → t₂ ≡ lay s (two_digits n)
unfolding two_digits
two_one s t₁ t₂ n h a b = rw (lt-ltb n 10 h) (lay_then _ _ _ _ _ a b)

pub two_more : (s t : Spot) (n : ℕ) → 10 ≤ n → t ≡ lay s (decimal n) → t ≡ lay s (two_digits n)
unfolding two_digits
two_more s t n h a = rw (le-ltb n 10 h) a

pub ruleset twos = (two_one, two_more)

pub day_text_lem : (s t : Spot) (d : ℕ) (y m : Stand) → y ≡ year_of d → m ≡ month_of y.number y.day → t ≡ lay s (ymd_text y.number m.number m.day)
    → t ≡ lay s (day_text d)
unfolding day_text month_text
day_text_lem s t d y m p q a =
    a ∙ ap (λ (z : Stand). lay s (month_text y.number z)) q
    ∙ ap (λ (z : Stand). lay s (month_text z.number (month_of z.number z.day))) p
