-- What inputs ask for, gathered input by input, and the lock rule over that: the same as the definition's, which says it by lists.
use Rattle.std.specs.Prelude.{ℕ, Option, None, Some, ◌+◌, Bool, true, false, ◌||◌, List, [], ◌∷◌, ltb, Ok, Err}
use Rattle.format.specs.Tests.{pick}
use Rattle.format.specs.Numbers.{le}
use Rattle.format.specs.Locks.{Sized, missing, misfit, is, In, height_lock, time_lock, or_zero, Locked, unlocked, locked}
use Rattle.format.specs.Answers.{Decided, Maybe, Numbering}
use Rattle.format.specs.declared.Lock.TheVariants as L
use Rattle.lock.specs.declared.Wish.{Wish}
use Rattle.lock.specs.declared.Wish.TheVariants.{Nothing, Wrong, Number}
use Rattle.lock.specs.declared.Most.{Most}
use Rattle.lock.specs.declared.Asks.{Asks}

-- what a field asks for
unfoldable pub wish_of : Sized → Wish
wish_of missing = Nothing
wish_of misfit = Wrong
wish_of (is v) = Number (le v)

-- the field has a wrong length
unfoldable pub is_wrong : Wish → Bool
is_wrong Nothing = false
is_wrong Wrong = true
is_wrong (Number n) = false

-- one more number n, which input i asks for
unfoldable pub raised : Option Most → ℕ → ℕ → Option Most
raised None n i = Some (record { first = i; number = n; input = i })
raised (Some m) n i = pick (ltb m.number n) (Some (record { first = m.first; number = n; input = i })) (Some m)

-- the same by what the input asks for
unfoldable pub topped_by : Option Most → Wish → ℕ → Option Most
topped_by k Nothing i = k
topped_by k Wrong i = k
topped_by k (Number n) i = raised k n i

-- the first input with a wrong field
unfoldable pub fault_by : Option ℕ → Wish → Wish → ℕ → Option ℕ
fault_by (Some j) h t i = Some j
fault_by None h t i = pick (is_wrong h || is_wrong t) (Some i) None

-- with one input more, number i, which asks for a height and a time
unfoldable pub seen : Asks → ℕ → Wish → Wish → Asks
seen a i h t = record { fault = fault_by a.fault h t i; height = topped_by a.height h i; time = topped_by a.time t i }

-- with an input more, by its fields
unfoldable pub seen_in : Asks → ℕ → In → Asks
seen_in a i x = seen a i (wish_of x.height) (wish_of x.time)

-- before the first input
abbrev pub no_asks : Asks
no_asks = record { fault = None; height = None; time = None }

-- with further inputs, the first of which has number i
unfoldable pub walk : Asks → ℕ → List In → Asks
walk a i [] = a
walk a i (x ∷ xs) = walk (seen_in a i x) (i + 1) xs

-- the greatest height and its input, judged
unfoldable pub height_by : ℕ → ℕ → Decided
height_by n i = height_lock (record { number = n; input = i })

-- the greatest time and its input, judged
unfoldable pub time_by : ℕ → ℕ → Decided
time_by n i = time_lock (record { number = n; input = i })

-- by both kinds
unfoldable pub decide_kinds : ℕ → Option Most → Option Most → Decided
decide_kinds fallback None None = Ok (L.Fallback fallback)
decide_kinds fallback (Some h) None = height_by h.number h.input
decide_kinds fallback None (Some t) = time_by t.number t.input
decide_kinds fallback (Some h) (Some t) = Ok (L.BothKinds h.first t.first)

-- by both kinds, unless a field has a wrong length
unfoldable pub decide_by : Maybe → Asks → Option ℕ → Decided
decide_by fallback a None = decide_kinds (or_zero fallback) a.height a.time
decide_by fallback a (Some i) = Ok (L.Malformed i)

-- by all that inputs ask for
unfoldable pub decide_asks : Maybe → Asks → Decided
decide_asks fallback a = decide_by fallback a a.fault

-- a lock time as the definitions have it
unfoldable pub locked_by : Numbering → Locked
locked_by (Err e) = unlocked e
locked_by (Ok n) = locked n
