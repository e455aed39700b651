-- Laws of what one input asks for, one for each way through the functions that gather it.
use mathlib.Core.Path.{◌≡◌, sym, ◌∙◌, ap}
use mathlib.Core.Bool.{Bool, true, false}
use mathlib.Core.List.{List, map}
use Prim.Native.Nat.{ℕ, ◌+◌, ◌≤◌, ◌<◌}
use native.Mathlib.Omega.{arith}
use borrow.Author.Tests.{lt-ltb, le-ltb}
use lib.ListN.{drop}
use lib.Seq.{take-take}
use Rattle.std.specs.Prelude.{Option, None, Some}
use Rattle.format.specs.Entries.{shown}
use Rattle.format.specs.Numbers.{le}
use Rattle.format.specs.Locks.{in_of}
use Rattle.format.specs.declared.MapEntry.{MapEntry}
use Rattle.wire.specs.Leads.{lead}
use Rattle.entries.specs.Words.{map_count, map_at}
use Rattle.fitness.specs.Fits.{entries_of}
use Rattle.fitness.specs.Parts.{bytes_at}
use Rattle.all_maps_fit.specs.Alls.{Usable, Whole, pairs_of, in_at}
use Rattle.all_maps_fit.specs.Places.{sized_in, input_in}
use Rattle.all_maps_fit.specs.declared.SizedAt.{SizedAt}
use Rattle.all_maps_fit.specs.declared.SizedAt.TheVariants as S
use Rattle.all_maps_fit.specs.declared.InputAt.{InputAt}
use Rattle.lock.specs.declared.Wish.{Wish}
use Rattle.lock.specs.declared.Wish.TheVariants.{Nothing, Wrong, Number}
use Rattle.lock.specs.declared.Most.{Most}
use Rattle.lock.specs.declared.Asks.{Asks}
use Rattle.lock.specs.Asks.{wish_of, is_wrong, raised, topped_by, fault_by, seen, seen_in}

-- what a field asks for, by where it stands
module _ (f : List ℕ) (x : SizedAt) where
  pub wish_missing : x ≡ S.Missing → Nothing ≡ wish_of (sized_in 4 f x)
  unfolding wish_of sized_in
  wish_missing e = rw e

  pub wish_wrong : x ≡ S.Misfit → Wrong ≡ wish_of (sized_in 4 f x)
  unfolding wish_of sized_in
  wish_wrong e = rw e

  pub wish_number : (s n : ℕ) (v : List ℕ) → x ≡ S.At s → v ≡ bytes_at f s 4 → n ≡ lead 4 v → Number n ≡ wish_of (sized_in 4 f x)
  unfolding wish_of sized_in lead bytes_at
  wish_number s n v e q r = ap Number (r ∙ ap (lead 4) q ∙ ap le (take-take 4 4 (drop s f) (omega arith))) ∙ sym (rw e)

pub ruleset wishes = (wish_missing, wish_wrong, wish_number)

-- one more number
module _ (k : Option Most) (n i : ℕ) where
  pub raise_first : k ≡ None → Some (record { first = i; number = n; input = i }) ≡ raised k n i
  unfolding raised
  raise_first e = rw e

  module _ (m : Most) (e : k ≡ Some m) where
    pub raise_more : m.number < n → Some (record { first = m.first; number = n; input = i }) ≡ raised k n i
    unfolding raised
    raise_more h = rw (e, lt-ltb m.number n h)

    pub raise_same : n ≤ m.number → Some m ≡ raised k n i
    unfolding raised
    raise_same h = rw (e, le-ltb m.number n h)

pub ruleset raises = (raise_first, raise_more, raise_same)

-- one more wish
module _ (k : Option Most) (w : Wish) (i : ℕ) where
  pub more_nothing : w ≡ Nothing → k ≡ topped_by k w i
  unfolding topped_by
  more_nothing e = rw e

  pub more_wrong : w ≡ Wrong → k ≡ topped_by k w i
  unfolding topped_by
  more_wrong e = rw e

  pub more_number : (n : ℕ) (r : Option Most) → w ≡ Number n → r ≡ raised k n i → r ≡ topped_by k w i
  unfolding topped_by
  more_number n r e q = rw e q

pub ruleset mores = (more_nothing, more_wrong, more_number)

-- the first fault
module _ (c : Option ℕ) (h t : Wish) (i : ℕ) where
  pub fault_old : (j : ℕ) → c ≡ Some j → Some j ≡ fault_by c h t i
  unfolding fault_by
  fault_old j e = rw e

  module _ (e : c ≡ None) (a : Bool) (ea : a ≡ is_wrong h) where
    pub fault_height : a ≡ true → Some i ≡ fault_by c h t i
    unfolding fault_by
    fault_height p = rw (e, sym ea ∙ p)

    module _ (p : a ≡ false) (b : Bool) (eb : b ≡ is_wrong t) where
      pub fault_time : b ≡ true → Some i ≡ fault_by c h t i
      unfolding fault_by
      fault_time q = rw (e, sym ea ∙ p, sym eb ∙ q)

      pub fault_none : b ≡ false → None ≡ fault_by c h t i
      unfolding fault_by
      fault_none q = rw (e, sym ea ∙ p, sym eb ∙ q)

pub ruleset faults = (fault_old, fault_height, fault_time, fault_none)

-- one more input
pub see_is : (a : Asks) (i : ℕ) (h t : Wish) (c : Option ℕ) (x y : Option Most) → c ≡ fault_by a.fault h t i → x ≡ topped_by a.height h i → y
    ≡ topped_by a.time t i
    → record { fault = c; height = x; time = y } ≡ seen a i h t
unfolding seen
see_is a i h t c x y p q r = λ j. record { fault = p j; height = q j; time = r j }

pub see_at : (f : List ℕ) (x : InputAt) (a r : Asks) (i : ℕ) (h t : Wish) → h ≡ wish_of (sized_in 4 f x.height) → t ≡ wish_of (sized_in 4 f x.time)
    → r ≡ seen a i h t
    → r ≡ seen_in a i (input_in f x)
unfolding seen_in input_in
see_at f x a r i h t eh et q = q ∙ rw (eh, et)

-- the input of a map's entry
pub shown_at : (f P M : List ℕ) (i : ℕ) (m : MapEntry) → m ≡ map_at M (1 + i) → (x : InputAt) → input_in f x ≡ in_of (map (shown f) (entries_of P m))
    → input_in f x ≡ in_at f P M i
unfolding in_at pairs_of
shown_at f P M i m at x e = e ∙ ap (λ (y : MapEntry). in_of (map (shown f) (entries_of P y))) at

module _ (f P M : List ℕ) (i : ℕ) (w : Whole f P M (1 + i)) where
  pub next_listed : 1 + i < map_count M
  next_listed = w.listed

  module _ (m : MapEntry) (at : m ≡ map_at M (1 + i)) where
    pub next_usable : Usable f P m
    next_usable = rw at w.usable

    pub see_input : (x : InputAt) → input_in f x ≡ in_of (map (shown f) (entries_of P m)) → (a r : Asks) → r ≡ seen_in a i (input_in f x)
        → r ≡ seen_in a i (in_at f P M i)
    see_input x e a r q = q ∙ ap (seen_in a i) (shown_at f P M i m at x e)

pub ruleset sees = (next_listed, next_usable, see_input)
