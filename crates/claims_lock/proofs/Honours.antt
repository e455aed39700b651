-- The lock of a transaction honours what its inputs ask, or the transaction is refused.
use mathlib.Core.Path.{◌≡◌, refl, sym, ◌∙◌, ap, subst}
use mathlib.Core.Bool.{Bool, true, false, ◌||◌}
use mathlib.Core.List.{List, [], ◌∷◌}
use Prim.Native.Nat.{ℕ, zero, suc, ◌^◌, ◌≤◌, ◌<◌}
use native.Mathlib.Omega.{arith}
use Rattle.format.specs.Locks.{Sized, missing, misfit, is, In, threshold, is_misfit, or_zero, decide, Locked, unlocked, locked, lock_of}
use Rattle.format.specs.Scripts.{Out}
use Rattle.format.specs.Transaction.{Tx, refuses, writes, tx_with, tx_by, transaction}
use Rattle.format.specs.declared.PsbtError.TheVariants.{BadValue}
use Rattle.format.specs.declared.Psbt.{Psbt}
use Rattle.format.specs.Answers.{Decided}
use Rattle.std.specs.Prelude.{Ok, Err}
use Rattle.format.specs.declared.Lock.TheVariants.{Height, Time, Fallback, BothKinds, HeightTooGreat, TimeTooSmall, Malformed}
use Rattle.format.proofs.Tests.{never_true}
use Rattle.format.proofs.Numbers.{All}
use Rattle.claims_lock.specs.Honours.{Spells, AsksHeight, AsksTime, IsMalformed, Meets, Lacking, Honours, asks_nothing, by_height}
use Rattle.claims_lock.specs.Honours.{by_time, lock_in, At, AskedAt, EachAsked, NoneAsked, TimesFit, WellFormed, Greatest, Says}
use Rattle.claims_lock.proofs.Decisions.{decided, unheard}
use Rattle.claims_lock.proofs.Ends.{never_writes, lock_ends}

all_both : {A : Type 0} (P Q R : A → Type 0) → ((x : A) → P x → Q x → R x) → (xs : List A) → All P xs → All Q xs → All R xs
all_both P Q R f [] h k = tt
all_both P Q R f (x ∷ xs) h k = (f x h.0 k.0, all_both P Q R f xs h.1 k.1)

-- what holds of all inputs holds of one
at_all : (P : In → Type 0) (ins : List In) (i : ℕ) (x : In) → At ins i x → All P ins → P x
at_all P [] i x a h = absurd a
at_all P (y ∷ ys) zero x a h = subst P a h.0
at_all P (y ∷ ys) (suc i) x a h = at_all P ys i x a h.1

-- a number asked for has what each number asked for has
asked : (asks : In → ℕ → Type 0) (P : ℕ → Type 0) (n i : ℕ) (ins : List In) → AskedAt asks n i ins → EachAsked asks P ins → P n
asked asks P n i ins a h = at_all (λ x. (m : ℕ) → asks x m → P m) ins i a.0 a.1 h n a.2

-- a field of no wrong length: not there, or a number
data Formed (f : Sized) : Type 0 where
  lacks : Lacking f → Formed f
  spells : (n : ℕ) → Spells f n → Formed f

formed : (f : Sized) → (is_misfit f ≡ true → ⊥) → Formed f
unfolding is_misfit
formed missing w = lacks tt
formed misfit w = absurd (w refl)
formed (is v) w = spells _ refl

never_misfit : (f : Sized) → Formed f → is_misfit f ≡ true → ⊥
unfolding is_misfit
never_misfit missing d q = never_true q
never_misfit misfit (lacks a) q = a
never_misfit misfit (spells n a) q = a
never_misfit (is v) d q = never_true q

-- both lock fields of an input that is honoured are such
both_formed : (n : ℕ) (x : In) → Honours n x → Formed x.height × Formed x.time
both_formed n x (asks_nothing a b) = (lacks a, lacks b)
both_formed n x (by_height h a b l m) = (spells h a, lacks b)
both_formed n x (by_time t b a l m) = (lacks a, spells t b)

or_left : (a b : Bool) → a ≡ true → (a || b) ≡ true
or_left true b q = refl
or_left false b q = never_true q

or_right : (a b : Bool) → b ≡ true → (a || b) ≡ true
or_right true b q = refl
or_right false b q = q

or_by : {A : Type 0} (a b : Bool) → (a ≡ true → A) → (b ≡ true → A) → (a || b) ≡ true → A
or_by true b f g q = f refl
or_by false b f g q = g q

-- no lock honours an input with a height or a time of a wrong length
pub malformed_unhonoured : (n : ℕ) (x : In) → IsMalformed x → Honours n x → ⊥
malformed_unhonoured n x m h =
    let d = both_formed n x h in
    or_by (is_misfit x.height) (is_misfit x.time) (never_misfit x.height d.0) (never_misfit x.time d.1) m

-- a lock that meets an input without a field of a wrong length honours it
pub meets_honours : (n : ℕ) (x : In) → Meets n x → (IsMalformed x → ⊥) → Honours n x
meets_honours n x m w =
    by (formed x.height (λ q. w (or_left (is_misfit x.height) (is_misfit x.time) q)))
    (formed x.time (λ q. w (or_right (is_misfit x.height) (is_misfit x.time) q)))
  where
    by : Formed x.height → Formed x.time → Honours n x
    by (lacks a) (lacks b) = asks_nothing a b
    by (spells h a) (lacks b) = let e = m.height h a in by_height h a b (omega (arith, e.0)) (omega (arith, e.1))
    by (lacks a) (spells t b) = let e = m.time t b in by_time t b a (omega (arith, e.0)) (omega (arith, e.1))
    by (spells h a) (spells t b) = absurd (omega (arith, (m.height h a).0, (m.time t b).0))

-- a field that is not there asks for no number, and one that is there for one
lacks_none : (f : Sized) → Lacking f → (n : ℕ) → Spells f n → ⊥
lacks_none missing a n e = e
lacks_none misfit a n e = e
lacks_none (is v) a n e = a

one_number : (f : Sized) (n m : ℕ) → Spells f n → Spells f m → n ≡ m
one_number missing n m a b = absurd a
one_number misfit n m a b = absurd a
one_number (is v) n m a b = sym a ∙ b

-- and a lock that honours an input meets all that it asks
pub honours_meets : (n : ℕ) (x : In) → Honours n x → Meets n x
honours_meets n x (asks_nothing a b) = record { height = λ h e. absurd (lacks_none x.height a h e); time = λ t e. absurd (lacks_none x.time b t e) }
honours_meets n x (by_height m a b l k) = record {
  height = λ h e. (omega (arith, l), omega (arith, one_number x.height m h a e, k));
  time = λ t e. absurd (lacks_none x.time b t e);
}
honours_meets n x (by_time m a b l k) = record {
  height = λ h e. absurd (lacks_none x.height b h e);
  time = λ t e. (omega (arith, l), omega (arith, one_number x.time m t a e, k));
}

module _ (s : Psbt) (ins : List In) (outs : List Out) (T : List ℕ) where
  -- a transaction is refused, or its lock is a height, a time or the fallback, each only where it may be
  module _ (P : Tx → Type 0) (bad : P (refuses BadValue))
      (height : (n i : ℕ) → WellFormed ins → Greatest AsksHeight AsksTime n i ins → n < threshold → P (tx_with s ins outs T n))
      (time : (n i : ℕ) → WellFormed ins → Greatest AsksTime AsksHeight n i ins → threshold ≤ n → P (tx_with s ins outs T n))
      (none : WellFormed ins → NoneAsked AsksHeight ins → NoneAsked AsksTime ins → P (tx_with s ins outs T (or_zero s.fallback_locktime))) where
    lock_by_lem : (l : Decided) → Says s.fallback_locktime ins l → P (tx_by s ins outs T (lock_of l))
    unfolding lock_of tx_by
    lock_by_lem (Err e) h = absurd h
    lock_by_lem (Ok (Height n i)) h = height n i h.0 h.1 h.2
    lock_by_lem (Ok (Time n i)) h = time n i h.0 h.1 h.2
    lock_by_lem (Ok (Fallback n)) h = subst (λ (m : ℕ). P (tx_with s ins outs T m)) (sym h.3) (none h.0 h.1 h.2)
    lock_by_lem (Ok (BothKinds i j)) h = bad
    lock_by_lem (Ok (HeightTooGreat n i)) h = bad
    lock_by_lem (Ok (TimeTooSmall n i)) h = bad
    lock_by_lem (Ok (Malformed i)) h = bad

    transaction_by : P (transaction s ins outs T)
    unfolding transaction
    transaction_by = lock_by_lem (decide s.fallback_locktime ins) (decided s.fallback_locktime ins _ refl)

  -- the lock in a transaction's bytes meets every input
  pub meets : (b : List ℕ) → TimesFit ins → transaction s ins outs T ≡ writes b → All (Meets (lock_in b)) ins
  meets b fit =
      transaction_by (λ t. t ≡ writes b → All (Meets (lock_in b)) ins) never_writes
      (λ n i w g l q. rw (lock_ends s ins outs T n b (omega arith) q)
      (all_both _ _ _ (λ x h k. record { height = λ m a. (l, h m a); time = λ m a. absurd (k m a) }) ins g.most g.alone))
      (λ n i w g l q. rw (lock_ends s ins outs T n b (asked AsksTime (λ m. m < 2 ^ 32) n i ins g.there fit) q)
      (all_both _ _ _ (λ x h k. record { height = λ m a. absurd (k m a); time = λ m a. (l, h m a) }) ins g.most g.alone))
      (λ w h k q. all_both _ _ _ (λ x h k. record { height = λ m a. absurd (h m a); time = λ m a. absurd (k m a) }) ins h k)

  -- no input of a transaction has a height or a time of a wrong length
  well_formed_lem : (b : List ℕ) → transaction s ins outs T ≡ writes b → WellFormed ins
  well_formed_lem b = transaction_by (λ t. t ≡ writes b → WellFormed ins) never_writes (λ n i w g l q. w) (λ n i w g l q. w) (λ w h k q. w)

  -- so the lock honours every input
  pub honours : (b : List ℕ) → TimesFit ins → transaction s ins outs T ≡ writes b → All (Honours (lock_in b)) ins
  honours b fit q = all_both _ _ _ (meets_honours (lock_in b)) ins (meets b fit q) (well_formed_lem b q)

  -- where no input asks, it is the fallback
  pub lock_of_none : (b : List ℕ) → NoneAsked AsksHeight ins
      → NoneAsked AsksTime ins → or_zero s.fallback_locktime < 2 ^ 32 → transaction s ins outs T ≡ writes b
      → lock_in b ≡ or_zero s.fallback_locktime
  lock_of_none b h k fit =
      transaction_by (λ t. t ≡ writes b → lock_in b ≡ or_zero s.fallback_locktime) never_writes
      (λ n i w g l q. absurd (asked AsksHeight (λ m. ⊥) n i ins g.there h))
      (λ n i w g l q. absurd (asked AsksTime (λ m. ⊥) n i ins g.there k))
      (λ w h k q. lock_ends s ins outs T _ b fit q)

  -- refused: a height too great is asked for
  pub height_too_great : (n i : ℕ) → AskedAt AsksHeight n i ins → threshold ≤ n → transaction s ins outs T ≡ refuses BadValue
  height_too_great n i a h =
      transaction_by (λ t. t ≡ refuses BadValue) refl
      (λ m j w g l. let k : n ≤ m = asked AsksHeight (λ x. x ≤ m) n i ins a g.most in absurd (omega arith))
      (λ m j w g l. absurd (asked AsksHeight (λ x. ⊥) n i ins a g.alone))
      (λ w h k. absurd (asked AsksHeight (λ x. ⊥) n i ins a h))

  -- refused: a time is asked for, and each time asked for is too small
  pub times_too_small : (n i : ℕ) → AskedAt AsksTime n i ins → EachAsked AsksTime (λ t. t < threshold) ins → transaction s ins outs T ≡ refuses BadValue
  times_too_small n i a h =
      transaction_by (λ t. t ≡ refuses BadValue) refl
      (λ m j w g l. absurd (asked AsksTime (λ x. ⊥) n i ins a g.alone))
      (λ m j w g l. let k : m < threshold = asked AsksTime (λ x. x < threshold) m j ins g.there h in absurd (omega arith))
      (λ w h k. absurd (asked AsksTime (λ x. ⊥) n i ins a k))

  -- refused: a height and a time are asked for, by one input or by two
  pub both_kinds : (n i m j : ℕ) → AskedAt AsksHeight n i ins → AskedAt AsksTime m j ins → transaction s ins outs T ≡ refuses BadValue
  both_kinds n i m j a b =
      transaction_by (λ t. t ≡ refuses BadValue) refl
      (λ _ _ w g l. absurd (asked AsksTime (λ x. ⊥) m j ins b g.alone))
      (λ _ _ w g l. absurd (asked AsksHeight (λ x. ⊥) n i ins a g.alone))
      (λ w h k. absurd (asked AsksHeight (λ x. ⊥) n i ins a h))

  -- refused: a height or a time of a wrong length
  pub malformed : (i : ℕ) (x : In) → At ins i x → IsMalformed x → transaction s ins outs T ≡ refuses BadValue
  malformed i x a m =
      transaction_by (λ t. t ≡ refuses BadValue) refl
      (λ _ _ w g l. absurd (at_all (λ x. IsMalformed x → ⊥) ins i x a w m))
      (λ _ _ w g l. absurd (at_all (λ x. IsMalformed x → ⊥) ins i x a w m))
      (λ w h k. absurd (at_all (λ x. IsMalformed x → ⊥) ins i x a w m))

-- where some input asks, the fallback makes no difference
module _ (s s' : Psbt) (ins : List In) (outs : List Out) (T : List ℕ) (version : s.tx_version ≡ s'.tx_version)
    (some : NoneAsked AsksHeight ins → NoneAsked AsksTime ins → ⊥) where
  same_by : (l : Locked) → tx_by s ins outs T l ≡ tx_by s' ins outs T l
  unfolding tx_by tx_with
  same_by (unlocked e) = refl
  same_by (locked n) = rw version

  pub fallback_unheard : transaction s ins outs T ≡ transaction s' ins outs T
  unfolding transaction
  fallback_unheard = same_by _ ∙ ap (λ (l : Decided). tx_by s' ins outs T (lock_of l)) (unheard s.fallback_locktime s'.fallback_locktime ins some)
