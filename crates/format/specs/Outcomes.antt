-- Promises that leave one outcome.
use Rattle.std.specs.Prelude.{◌≡◌, List, ℕ}

-- any two answers that meet a promise agree
abbrev pub One : {A : Type 0} → (A → Type 0) → Type 0
One {A} promise = (a b : A) → promise a → promise b → a ≡ b

-- any two answers agree, and so does lent memory as each leaves it
abbrev pub OneWith : {A : Type 0} → (A → List ℕ → Type 0) → Type 0
OneWith {A} promise = (a b : A) (x y : List ℕ) → promise a x → promise b y → (a ≡ b) × (x ≡ y)

-- the same with two slices of lent memory
abbrev pub OneWithBoth : {A : Type 0} → (A → List ℕ → List ℕ → Type 0) → Type 0
OneWithBoth {A} promise = (a b : A) (p q m n : List ℕ) → promise a p m → promise b q n → (a ≡ b) × (p ≡ q) × (m ≡ n)

-- the same with three
abbrev pub OneWithThree : {A : Type 0} → (A → List ℕ → List ℕ → List ℕ → Type 0) → Type 0
OneWithThree {A} promise = (a b : A) (p q m n x y : List ℕ) → promise a p m x → promise b q n y → (a ≡ b) × (p ≡ q) × (m ≡ n) × (x ≡ y)
