-- Laws of what numbers from one on give: one and then the rest, fronts and rests, all of them through a function.
use mathlib.Core.Path.{◌≡◌, refl, sym, ◌∙◌, ap, ap₂}
use mathlib.Core.List.{List, [], ◌∷◌, map}
use Prim.Native.Nat.{ℕ, zero, suc, ◌+◌, ◌-◌, ◌≤◌, ◌<◌}
use native.Mathlib.Omega.{arith}
use lib.ListN.{length, take, drop}
use Rattle.all_maps_fit.specs.Alls.{from}

module _ {A : Type 0} (g : ℕ → A) where
  pub from_none : (i n : ℕ) → n ≤ 0 → from g i n ≡ []
  unfolding from
  from_none i n h = let q : n ≡ 0 = omega arith in rw q

  pub from_one : (i n : ℕ) → 0 < n → from g i n ≡ g i ∷ from g (i + 1) (n - 1)
  unfolding from
  from_one i n h = let q : n ≡ suc (n - 1) = omega arith in ap (from g i) q

  pub from_length : (i n : ℕ) → length (from g i n) ≡ n
  unfolding from
  from_length i zero = refl
  from_length i (suc n) = ap suc (from_length (i + 1) n)

  pub from_take : (a i n : ℕ) → a ≤ n → take a (from g i n) ≡ from g i a
  unfolding from
  from_take zero i n h = refl
  from_take (suc a) i zero h = absurd (omega arith)
  from_take (suc a) i (suc n) h = ap (λ (l : List A). g i ∷ l) (from_take a (i + 1) n (omega arith))

  pub from_drop : (a i n : ℕ) → drop a (from g i n) ≡ from g (i + a) (n - a)
  unfolding from
  from_drop zero i n = let p : i ≡ i + 0 = omega arith in let q : n ≡ n - 0 = omega arith in ap₂ (from g) p q
  from_drop (suc a) i zero = let q : 0 ≡ 0 - suc a = omega arith in ap (from g (i + suc a)) q
  from_drop (suc a) i (suc n) =
      let p : i + 1 + a ≡ i + suc a = omega arith in
      let q : n - a ≡ suc n - suc a = omega arith in
      from_drop a (i + 1) n ∙ ap₂ (from g) p q

  -- where a walk stands: the next one, and the rest behind it
  pub from_here : (i n : ℕ) → i < n → drop i (from g 0 n) ≡ g i ∷ drop (suc i) (from g 0 n)
  from_here i n h =
      let p : 0 + i ≡ i = omega arith in
      let q : n - i - 1 ≡ n - suc i = omega arith in
      let r : i + 1 ≡ 0 + suc i = omega arith in
      from_drop i 0 n ∙ ap (λ (k : ℕ). from g k (n - i)) p ∙ from_one i (n - i) (omega arith)
      ∙ ap (λ (l : List A). g i ∷ l) (ap₂ (from g) r q ∙ sym (from_drop (suc i) 0 n))

  pub from_map : {B : Type 0} (h : A → B) (i n : ℕ) → map h (from g i n) ≡ from (λ j. h (g j)) i n
  unfolding from
  from_map h i zero = refl
  from_map h i (suc n) = ap (λ l. h (g i) ∷ l) (from_map h (i + 1) n)

  pub from_shift : (k i n : ℕ) → from g (k + i) n ≡ from (λ j. g (k + j)) i n
  unfolding from
  from_shift k i zero = refl
  from_shift k i (suc n) =
      let p : k + i + 1 ≡ k + (i + 1) = omega arith in
      ap (λ (l : List A). g (k + i) ∷ l) (ap (λ (j : ℕ). from g j n) p ∙ from_shift k (i + 1) n)

-- of n in all, those from number i on: none, or one and the rest; from the first on, all
module _ {A : Type 0} (g : ℕ → A) (i n : ℕ) where
  pub rest_none : n ≤ i → from g i (n - i) ≡ []
  rest_none h = from_none g i (n - i) (omega arith)

  pub rest_one : i < n → from g i (n - i) ≡ g i ∷ from g (i + 1) (n - (i + 1))
  rest_one h = let q : n - i - 1 ≡ n - (i + 1) = omega arith in from_one g i (n - i) (omega arith) ∙ rw q

pub rest_all : {A : Type 0} (g : ℕ → A) (n : ℕ) → from g 0 (n - 0) ≡ from g 0 n
rest_all g n = let q : n - 0 ≡ n = omega arith in rw q
