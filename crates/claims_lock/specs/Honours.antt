-- What inputs ask of a lock time, and when a lock honours it.
use Rattle.std.specs.Prelude.{ℕ, zero, suc, ◌-◌, ◌^◌, ◌≤◌, ◌<◌, ◌≡◌, true, ◌||◌, List, [], ◌∷◌, length, drop, Ok, Err}
use Rattle.format.specs.Numbers.{le}
use Rattle.format.specs.Content.{Pair}
use Rattle.format.specs.Tables.{View, shows}
use Rattle.format.specs.Locks.{Sized, missing, misfit, is, In, threshold, is_misfit, or_zero}
use Rattle.format.specs.Scripts.{Reported, unfit_map, reports}
use Rattle.format.specs.Answers.{Decided, Maybe}
use Rattle.format.specs.declared.Lock.TheVariants.{Height, Time, Fallback, BothKinds, HeightTooGreat, TimeTooSmall, Malformed}
use Rattle.format.proofs.Numbers.{All, Byte}

-- a field that is there with its right length spells n
abbrev pub Spells : Sized → ℕ → Type 0
Spells missing n = ⊥
Spells misfit n = ⊥
Spells (is v) n = le v ≡ n

-- input x asks for height h
abbrev pub AsksHeight : In → ℕ → Type 0
AsksHeight x h = Spells x.height h

-- input x asks for time t
abbrev pub AsksTime : In → ℕ → Type 0
AsksTime x t = Spells x.time t

-- an input with a height or a time of a wrong length
abbrev pub IsMalformed : In → Type 0
IsMalformed x = (is_misfit x.height || is_misfit x.time) ≡ true

-- lock n meets all that x asks: it is a height, not below a height asked for; it is a time, not below a time asked for
pub record Meets (n : ℕ) (x : In) : Type 0 where
  pub height : (h : ℕ) → AsksHeight x h → (n < threshold) × (h ≤ n)
  pub time : (t : ℕ) → AsksTime x t → (threshold ≤ n) × (t ≤ n)

-- a field that is not there; one of a wrong length is there
abbrev pub Lacking : Sized → Type 0
Lacking missing = Unit {0}
Lacking misfit = ⊥
Lacking (is v) = ⊥

-- lock n honours x: x has neither height nor time; or a height alone, and n is a height, not below it; or a time alone, and n is a time, not below it
pub data Honours (n : ℕ) (x : In) : Type 0 where
  asks_nothing : Lacking x.height → Lacking x.time → Honours n x
  by_height : (h : ℕ) → AsksHeight x h → Lacking x.time → n < threshold → h ≤ n → Honours n x
  by_time : (t : ℕ) → AsksTime x t → Lacking x.height → threshold ≤ n → t ≤ n → Honours n x

-- the lock that a transaction's bytes end in
unfoldable pub lock_in : List ℕ → ℕ
lock_in b = le (drop (length b - 4) b)

-- x is input number i
abbrev pub At : List In → ℕ → In → Type 0
At [] i x = ⊥
At (y ∷ ys) zero x = y ≡ x
At (y ∷ ys) (suc i) x = At ys i x

-- of a kind of asking (`AsksHeight`, `AsksTime`): input number i is there and asks for n
abbrev pub AskedAt : (In → ℕ → Type 0) → ℕ → ℕ → List In → Type 0
AskedAt asks n i ins = (x : In) × At ins i x × asks x n

-- whatever number an input asks for has P
abbrev pub EachAsked : (In → ℕ → Type 0) → (ℕ → Type 0) → List In → Type 0
EachAsked asks P ins = All (λ x. (n : ℕ) → asks x n → P n) ins

-- no input asks
abbrev pub NoneAsked : (In → ℕ → Type 0) → List In → Type 0
NoneAsked asks ins = EachAsked asks (λ n. ⊥) ins

-- every time asked for is a number of four bytes, as it is where a file's bytes are bytes
abbrev pub TimesFit : List In → Type 0
TimesFit ins = EachAsked AsksTime (λ t. t < 2 ^ 32) ins

-- pairs whose values are bytes
abbrev pub ByteValues : List Pair → Type 0
ByteValues ps = All (λ p. All Byte p.value) ps

-- maps that show such pairs
abbrev pub ShowsBytes : (ℕ → View) → Type 0
ShowsBytes v = (m : ℕ) (ps : List Pair) → v m ≡ shows ps → ByteValues ps

-- no lock field has a wrong length
abbrev pub WellFormed : List In → Type 0
WellFormed ins = All (λ x. IsMalformed x → ⊥) ins

-- n of input number i is the greatest number asked for, and none is asked for of the other kind
pub record Greatest (asks others : In → ℕ → Type 0) (n i : ℕ) (ins : List In) : Type 0 where
  pub there : AskedAt asks n i ins
  pub most : EachAsked asks (λ m. m ≤ n) ins
  pub alone : NoneAsked others ins

-- what an answer on the lock says of the inputs and the fallback
abbrev pub Says : Maybe → List In → Decided → Type 0
Says fallback ins (Err e) = ⊥
Says fallback ins (Ok (Height n i)) = WellFormed ins × Greatest AsksHeight AsksTime n i ins × (n < threshold)
Says fallback ins (Ok (Time n i)) = WellFormed ins × Greatest AsksTime AsksHeight n i ins × (threshold ≤ n)
Says fallback ins (Ok (Fallback n)) = WellFormed ins × NoneAsked AsksHeight ins × NoneAsked AsksTime ins × (n ≡ or_zero fallback)
Says fallback ins (Ok (BothKinds i j)) = WellFormed ins × ((h : ℕ) × AskedAt AsksHeight h i ins) × ((t : ℕ) × AskedAt AsksTime t j ins)
Says fallback ins (Ok (HeightTooGreat n i)) = WellFormed ins × Greatest AsksHeight AsksTime n i ins × (threshold ≤ n)
Says fallback ins (Ok (TimeTooSmall n i)) = WellFormed ins × Greatest AsksTime AsksHeight n i ins × (n < threshold)
Says fallback ins (Ok (Malformed i)) = (x : In) × At ins i x × IsMalformed x

-- maps that report inputs, each of which lock n meets and so honours
abbrev pub AllHonoured : ℕ → Reported → Type 0
AllHonoured n (unfit_map e) = ⊥
AllHonoured n (reports ins outs) = All (Meets n) ins × All (Honours n) ins

-- a time is asked for, and each time asked for is below the threshold: the greatest time is too small
abbrev pub FallenTimes : List In → Type 0
FallenTimes ins = ((t : ℕ) × (i : ℕ) × AskedAt AsksTime t i ins) × EachAsked AsksTime (λ t. t < threshold) ins

-- maps that report inputs whose greatest time is too small
abbrev pub FallenClock : Reported → Type 0
FallenClock (unfit_map e) = ⊥
FallenClock (reports ins outs) = FallenTimes ins
