-- Laws of the walk along the inputs, of the lock rule by its cases, and of the public calls.
use mathlib.Core.Path.{◌≡◌, sym, ◌∙◌, ap}
use mathlib.Core.List.{List}
use Prim.Native.Nat.{ℕ, ◌+◌, ◌-◌, ◌≤◌, ◌<◌}
use native.Mathlib.Omega.{arith}
use borrow.Author.Tests.{lt-ltb, le-ltb, le-leb, lt-leb}
use Rattle.std.specs.Prelude.{Option, None, Some, Ok, Err}
use Rattle.format.specs.Tables.{view, gather, maps_reported}
use Rattle.format.specs.Locks.{height_lock, time_lock, threshold, or_zero}
use Rattle.format.specs.Transaction.{lock_by, lock_decided}
use Rattle.format.specs.Told.{told_lock}
use Rattle.format.specs.declared.PsbtError.{PsbtError}
use Rattle.format.specs.declared.Psbt.{Psbt}
use Rattle.format.specs.Answers.{passed, Decided, Maybe, Ruled}
use Rattle.format.specs.declared.Lock.TheVariants as L
use Rattle.all_maps_fit.specs.Alls.{ruled_by, AllFit, in_at, from, ins_of}
use Rattle.all_maps_fit.proofs.Runs.{from_none, from_one}
use Rattle.all_maps_fit.proofs.Gathers.{all_are, all_not, all_reported, input_whole}
use Rattle.lock.specs.declared.Most.{Most}
use Rattle.lock.specs.declared.Asks.{Asks}
use Rattle.lock.specs.Asks.{seen_in, no_asks, walk, height_by, time_by, decide_kinds, decide_by, decide_asks}
use Rattle.lock.proofs.Decisions.{decides}

-- what the inputs from number i on add is what all ask for
pub record Walking (f P M : List ℕ) (s : Psbt) (a : Asks) (i : ℕ) : Type 0 where
  pub is : walk a i (from (in_at f P M) i (s.inputs - i)) ≡ walk no_asks 0 (ins_of f P M s)

pub walk_first : (f P M : List ℕ) (s : Psbt) (a : Asks) → a ≡ no_asks → Walking f P M s a 0
unfolding ins_of
walk_first f P M s a e = record { is = let q : s.inputs - 0 ≡ s.inputs = omega arith in rw (q, e) }

module _ (f P M : List ℕ) (s : Psbt) (a : Asks) (i : ℕ) (k : Walking f P M s a i) where
  pub walk_done : s.inputs ≤ i → a ≡ walk no_asks 0 (ins_of f P M s)
  unfolding walk
  walk_done h = sym (ap (walk a i) (from_none (in_at f P M) i (s.inputs - i) (omega arith))) ∙ k.is

  pub walk_more : i < s.inputs → (b : Asks) → b ≡ seen_in a i (in_at f P M i) → Walking f P M s b (i + 1)
  unfolding walk
  walk_more h b e =
      let q : s.inputs - i - 1 ≡ s.inputs - (i + 1) = omega arith in
      record { is = rw (e, ← q) (sym (ap (walk a i) (from_one (in_at f P M) i (s.inputs - i) (omega arith))) ∙ k.is) }

pub ruleset walks = (walk_first, walk_done, walk_more, input_whole)

-- a greatest number, judged
module _ (n i : ℕ) where
  pub height_is : n < 500000000 → Ok (L.Height n i) ≡ height_by n i
  unfolding height_by height_lock
  height_is h = rw (lt-ltb n threshold h)

  pub height_great : 500000000 ≤ n → Ok (L.HeightTooGreat n i) ≡ height_by n i
  unfolding height_by height_lock
  height_great h = rw (le-ltb n threshold h)

  pub time_small : n < 500000000 → Ok (L.TimeTooSmall n i) ≡ time_by n i
  unfolding time_by time_lock
  time_small h = rw (lt-leb threshold n h)

  pub time_is : 500000000 ≤ n → Ok (L.Time n i) ≡ time_by n i
  unfolding time_by time_lock
  time_is h = rw (le-leb threshold n h)

pub ruleset judged = (height_is, height_great, time_small, time_is)

-- both kinds
module _ (fallback : ℕ) (h t : Option Most) where
  pub none_asked : h ≡ None → t ≡ None → Ok (L.Fallback fallback) ≡ decide_kinds fallback h t
  unfolding decide_kinds
  none_asked p q = rw (p, q)

  pub time_asked_lem : h ≡ None → (m : Most) → t ≡ Some m → (r : Decided) → r ≡ time_by m.number m.input → r ≡ decide_kinds fallback h t
  unfolding decide_kinds
  time_asked_lem p m q r e = e ∙ sym (rw (p, q))

  module _ (m : Most) (p : h ≡ Some m) where
    pub height_asked_lem : t ≡ None → (r : Decided) → r ≡ height_by m.number m.input → r ≡ decide_kinds fallback h t
    unfolding decide_kinds
    height_asked_lem q r e = e ∙ sym (rw (p, q))

    pub both_asked : (n : Most) → t ≡ Some n → Ok (L.BothKinds m.first n.first) ≡ decide_kinds fallback h t
    unfolding decide_kinds
    both_asked n q = rw (p, q)

pub ruleset kinds = (none_asked, time_asked_lem, height_asked_lem, both_asked)

-- with the faults
module _ (fallback : Maybe) (a : Asks) where
  pub no_fault : a.fault ≡ None → (n : ℕ) → n ≡ or_zero fallback → (r : Decided) → r ≡ decide_kinds n a.height a.time → r ≡ decide_asks fallback a
  unfolding decide_asks decide_by
  no_fault p n q r e = e ∙ ap (λ (k : ℕ). decide_kinds k a.height a.time) q ∙ sym (ap (decide_by fallback a) p)

  pub a_fault : (i : ℕ) → a.fault ≡ Some i → Ok (L.Malformed i) ≡ decide_asks fallback a
  unfolding decide_asks decide_by
  a_fault i p = sym (ap (decide_by fallback a) p)

pub ruleset faults = (no_fault, a_fault)

-- where all maps are fit
pub lock_fit : (f P M : List ℕ) (s : Psbt) → AllFit f P M s → (a : Asks) (r : Decided) → a ≡ walk no_asks 0 (ins_of f P M s)
    → r ≡ decide_asks s.fallback_locktime a
    → r ≡ lock_decided (view f P M s) s
unfolding lock_decided lock_by
lock_fit f P M s k a r ea er =
    er ∙ ap (decide_asks s.fallback_locktime) ea ∙ decides s.fallback_locktime (ins_of f P M s) ∙ ap (lock_by s) (all_reported f P M s k)

-- the call: y is whether all maps are fit
module _ (f P M : List ℕ) (s : Psbt) (y : Ruled) (is : y ≡ ruled_by (gather (view f P M s) 0 (maps_reported s))) where
  pub told_refused : (e : PsbtError) → y ≡ Err e → told_lock (Err e) ≡ told_lock (lock_decided (view f P M s) s)
  unfolding lock_decided lock_by
  told_refused e q = ap (λ (x : _). told_lock (lock_by s x)) (all_not f P M s y is e q)

  pub told_decided : y ≡ passed → (a : Asks) (r : Decided) → a ≡ walk no_asks 0 (ins_of f P M s) → r ≡ decide_asks s.fallback_locktime a
      → told_lock r ≡ told_lock (lock_decided (view f P M s) s)
  told_decided q a r ea er = ap told_lock (lock_fit f P M s (all_are f P M s y is q) a r ea er)

pub ruleset calls = (all_are, told_refused, told_decided)
