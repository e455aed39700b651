-- The lock time, and what decided it.
use Rattle.std.specs.Prelude.{unwrap_or, ℕ, ◌+◌, Bool, true, false, ◌||◌, List, [], ◌∷◌, ◌++◌, length, leb, ltb, eqb, Ok, Err}
use Rattle.format.specs.Tests.{pick, keep_if}
use Rattle.format.specs.Numbers.{le}
use Rattle.format.specs.Content.{Pair, Found, absent, found, field}
use Rattle.format.specs.declared.PsbtError.{PsbtError}
use Rattle.format.specs.declared.PsbtError.TheVariants.{BadValue}
use Rattle.format.specs.Answers.{Decided, Maybe}
use Rattle.format.specs.declared.Lock.TheVariants.{Height, Time, Fallback, BothKinds, HeightTooGreat, TimeTooSmall, Malformed}

-- a field that must have w bytes: not there, there with another length, or its bytes
pub data Sized : Type 0 where
  missing : Sized
  misfit : Sized
  is : List ℕ → Sized

-- a value held to w bytes
unfoldable pub sized_to : ℕ → Found → Sized
sized_to w absent = missing
sized_to w (found v) = pick (eqb (length v) w) (is v) misfit

-- what a transaction takes from an input
pub record In : Type 0 where
  pub txid : Sized
  pub index : Sized
  pub sequence : Sized
  pub time : Sized
  pub height : Sized

-- from an input's pairs
unfoldable pub in_of : List Pair → In
in_of ps = record {
  txid = sized_to 32 (field 0x0e ps);
  index = sized_to 4 (field 0x0f ps);
  sequence = sized_to 4 (field 0x10 ps);
  time = sized_to 4 (field 0x11 ps);
  height = sized_to 4 (field 0x12 ps);
}

-- a lock number below this is a block height, any other a time
abbrev pub threshold : ℕ
threshold = 500_000_000

-- a number asked for, and the input that asks
pub record Asked : Type 0 where
  pub number : ℕ
  pub input : ℕ

-- what a field of input number i asks for
unfoldable pub asked_by_def : Sized → ℕ → List Asked
asked_by_def missing i = []
asked_by_def misfit i = []
asked_by_def (is v) i = record { number = le v; input = i } ∷ []

-- f of each input and its number, in order; the first has number i
unfoldable pub along : {A : Type 0} → (In → ℕ → List A) → ℕ → List In → List A
along f i [] = []
along f i (x ∷ xs) = f x i ++ along f (i + 1) xs

-- the heights asked for by inputs, the first of which has number i; and the times
unfoldable pub heights : ℕ → List In → List Asked
heights i ins = along (λ x. asked_by_def x.height) i ins

-- the times asked for
unfoldable pub times : ℕ → List In → List Asked
times i ins = along (λ x. asked_by_def x.time) i ins

-- a field of a wrong length
unfoldable pub is_misfit : Sized → Bool
is_misfit missing = false
is_misfit misfit = true
is_misfit (is v) = false

-- the inputs with a height or a time of a wrong length
unfoldable pub misfit_by : In → ℕ → List ℕ
misfit_by x i = keep_if (is_misfit x.height || is_misfit x.time) i []

-- the numbers of the inputs with such a field
unfoldable pub misfits : ℕ → List In → List ℕ
misfits i ins = along misfit_by i ins

-- the greatest of a first and further numbers asked for; of equal ones the first
unfoldable pub greatest : Asked → List Asked → Asked
greatest a [] = a
greatest a (b ∷ bs) = greatest (pick (ltb a.number b.number) b a) bs

-- a greatest height must be a height, a greatest time a time
unfoldable pub height_lock : Asked → Decided
height_lock a = pick (ltb a.number threshold) (Ok (Height a.number a.input)) (Ok (HeightTooGreat a.number a.input))

-- a greatest time must be a time
unfoldable pub time_lock : Asked → Decided
time_lock a = pick (leb threshold a.number) (Ok (Time a.number a.input)) (Ok (TimeTooSmall a.number a.input))

-- the fallback, absent 0
abbrev pub or_zero : Maybe → ℕ
or_zero m = unwrap_or m 0

-- by the heights and the times: not both; the greatest; the fallback only where nothing is asked
unfoldable pub decide_by : Maybe → List Asked → List Asked → Decided
decide_by fallback [] [] = Ok (Fallback (or_zero fallback))
decide_by fallback (h ∷ hs) [] = height_lock (greatest h hs)
decide_by fallback [] (t ∷ ts) = time_lock (greatest t ts)
decide_by fallback (h ∷ hs) (t ∷ ts) = Ok (BothKinds h.input t.input)

-- no lock field may have a wrong length
unfoldable pub well_formed : List ℕ → Decided → Decided
well_formed [] l = l
well_formed (i ∷ more) l = Ok (Malformed i)

-- what decides the lock of some inputs
unfoldable pub decide : Maybe → List In → Decided
decide fallback ins = well_formed (misfits 0 ins) (decide_by fallback (heights 0 ins) (times 0 ins))

-- the lock time, or the refusal
pub data Locked : Type 0 where
  unlocked : PsbtError → Locked
  locked : ℕ → Locked

-- the lock time that was decided, or the refusal
unfoldable pub lock_of : Decided → Locked
lock_of (Err e) = unlocked e
lock_of (Ok (Height n i)) = locked n
lock_of (Ok (Time n i)) = locked n
lock_of (Ok (Fallback n)) = locked n
lock_of (Ok (BothKinds h t)) = unlocked BadValue
lock_of (Ok (HeightTooGreat n i)) = unlocked BadValue
lock_of (Ok (TimeTooSmall n i)) = unlocked BadValue
lock_of (Ok (Malformed i)) = unlocked BadValue
