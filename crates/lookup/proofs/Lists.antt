-- Laws of listings by type, and of a pair by its number in its map.
use Rattle.std.specs.Ordering.{is_lt}
use mathlib.Core.Path.{◌≡◌, refl, sym, ◌∙◌, ap, ap₂}
use mathlib.Core.Bool.{Bool, true, false}
use mathlib.Core.List.{List, [], ◌∷◌, map}
use Prim.Native.Nat.{ℕ, zero, suc, ◌+◌, ◌^◌, ◌≤◌, ◌<◌}
use native.Mathlib.Omega.{arith}
use lib.Dec.{eqb}
use lib.ListN.{length, drop, get_or, length-take, length-drop}
use lib.Seq.{get_or-take, get_or-drop}
use mir.Syntax.{w64}
use mir.Val.{Fits}
use Rattle.std.specs.Prelude.{cond, filter, Ok, Err}
use Rattle.format.specs.Tests.{keep_if, only}
use Rattle.format.specs.Keys.{type_of, key_of, order, below}
use Rattle.format.specs.Content.{Pair}
use Rattle.format.specs.Entries.{pair_entries, key_in_def, value_in_def, shown}
use Rattle.format.specs.Tables.{Held, holds}
use Rattle.format.specs.Lookups.{listing, before, list, nth_of, nth, key_part, value_part}
use Rattle.format.specs.Told.{told_listing, told_nth}
use Rattle.format.proofs.Told.{nth_one}
use Rattle.format.specs.declared.PsbtError.{PsbtError}
use Rattle.format.specs.declared.PsbtError.TheVariants.{OutOfRange}
use Rattle.std.specs.declared.cmp.Ordering.{Ordering}
use Rattle.format.specs.declared.Listed.{Listed}
use Rattle.format.specs.Answers.{pairs_at, Listing, Nth}
use Rattle.format.specs.declared.PairEntry.{PairEntry}
use Rattle.format.specs.declared.MapEntry.{MapEntry}
use Rattle.entries.specs.Words.{no_pair, pair_count, pair_at}
use Rattle.entries.proofs.Tables.{pair_count_lem}
use Rattle.fitness.specs.Fits.{run, entries_of, held_of, Fit}
use Rattle.lookup.specs.Lists.{is_before, is_listed}

-- the tests on one key
pub before_is : (f : List ℕ) (t : ℕ) (e : PairEntry) (r : Bool) (o : Ordering) (k : List ℕ) → r ≡ is_lt o → o ≡ order k (t ∷ []) → k ≡ key_in_def f e
    → r ≡ is_before f t e
unfolding is_before below key_of
before_is f t e r o k er eo ek = er ∙ ap is_lt (eo ∙ ap (λ (x : List ℕ). order x (t ∷ [])) ek)

pub listed_is : (f : List ℕ) (t x : ℕ) (e : PairEntry) (k : List ℕ) → x ≡ type_of k → k ≡ key_in_def f e → eqb x t ≡ is_listed f t e
unfolding is_listed
listed_is f t x e k ex ek = ap (λ (n : ℕ). eqb n t) (ex ∙ ap type_of ek)

pub type_none : (k : List ℕ) → length k ≡ 0 → 0 ≡ type_of k
unfolding type_of
type_none [] h = refl
type_none (x ∷ k) h = absurd (omega arith)

pub type_some : (k : List ℕ) → (length k ≡ 0 → ⊥) → get_or k 0 0 ≡ type_of k
unfolding type_of
type_some [] h = absurd (h refl)
type_some (x ∷ k) h = refl

pub ruleset types = (before_is, listed_is, type_none, type_some)

-- how many entries pass a test is how many of the pairs that they show do
only_shown : (t : Pair → Bool) (f : List ℕ) (es : List PairEntry) → length (filter (λ e. t (shown f e)) es) ≡ length (only t (map (shown f) es))
unfolding only
only_shown t f [] = refl
only_shown t f (e ∷ es) = by (t (shown f e)) (only_shown t f es)
  where
    by : (b : Bool) → length (filter (λ x. t (shown f x)) es) ≡ length (only t (map (shown f) es))
        → length (cond b (e ∷ filter (λ x. t (shown f x)) es) (filter (λ x. t (shown f x)) es))
        ≡ length (keep_if b (shown f e) (only t (map (shown f) es)))
    by true h = ap suc h
    by false h = h

pub list_counted : (f : List ℕ) (t : ℕ) (es : List PairEntry) (i n : ℕ) → i ≡ length (filter (is_before f t) es) → n ≡ length (filter (is_listed f t) es)
    → Ok (pairs_at i n) ≡ list f t (holds es)
unfolding list before listing is_before is_listed shown
list_counted f t es i n p q =
    ap₂ (λ (a b : ℕ). Ok (pairs_at a b)) (p ∙ only_shown (λ p. below p.key (key_of t [])) f es) (q ∙ only_shown (λ p. eqb (type_of p.key) t) f es)

-- a listing, by what the map is
module _ (f P : List ℕ) (t : ℕ) (fit : Fit) where
  pub list_refused : (e : PsbtError) → fit ≡ Err e → Err e ≡ list f t (held_of P fit)
  unfolding list held_of
  list_refused e q = rw q

  pub list_there : (m : MapEntry) → fit ≡ Ok m → (l : Listed) → Ok l ≡ list f t (holds (entries_of P m)) → Ok l ≡ list f t (held_of P fit)
  unfolding held_of
  list_there m q l e = e ∙ sym (rw q)

pub list_is : (f P : List ℕ) (t : ℕ) (fit : Fit) (h : Held) (r : Listing) → r ≡ list f t (held_of P fit) → held_of P fit ≡ h
    → told_listing r ≡ told_listing (list f t h)
list_is f P t fit h r e q = ap told_listing (e ∙ ap (list f t) q)

pub ruleset listings = (list_refused, list_there)

-- a pair by its number
nth_near : (i : ℕ) (es : List PairEntry) → i < length es → nth_of i es ≡ Ok (get_or es i no_pair)
unfolding nth_of
nth_near i [] h = absurd (omega arith)
nth_near zero (e ∷ es) h = refl
nth_near (suc i) (e ∷ es) h = nth_near i es (omega arith)

nth_far : (i : ℕ) (es : List PairEntry) → length es ≤ i → nth_of i es ≡ Err OutOfRange
unfolding nth_of
nth_far i [] h = refl
nth_far zero (e ∷ es) h = absurd (omega arith)
nth_far (suc i) (e ∷ es) h = nth_far i es (omega arith)

module _ (P : List ℕ) (m : MapEntry) (i : ℕ) (w : m.first + m.count ≤ pair_count P) where
  long : length (entries_of P m) ≡ m.count
  unfolding entries_of run pair_count
  long =
      let h : m.first + m.count ≤ length (pair_entries P) = w in
      rw (length-take, length-drop) (omega arith)

  pub entries_few : length P < 2 ^ 64 → length (entries_of P m) < 2 ^ 64
  entries_few h = omega (arith, long, w, pair_count_lem P)

  pub nth_past : m.count ≤ i → Err OutOfRange ≡ nth i (holds (entries_of P m))
  unfolding nth
  nth_past h = sym (nth_far i (entries_of P m) (omega (arith, long)))

  module _ (h : i < m.count) where
    pub nth_fits : length P < 2 ^ 64 → Fits w64 (m.first + i)
    nth_fits g = record { fits = omega (arith, w, pair_count_lem P) }

    pub nth_in : m.first + i < pair_count P
    nth_in = omega (arith, w)

    pub nth_there : (e : PairEntry) → e ≡ pair_at P (m.first + i) → Ok e ≡ nth i (holds (entries_of P m))
    unfolding nth entries_of run pair_at
    nth_there e is =
        let g : get_or (entries_of P m) i no_pair ≡ e =
        get_or-take m.count (drop m.first (pair_entries P)) i no_pair h ∙ get_or-drop m.first (pair_entries P) i no_pair ∙ sym is in
        sym (nth_near i (entries_of P m) (omega (arith, long)) ∙ ap Ok g)

pub ruleset nths = (nth_past, nth_fits, nth_in, nth_there)

-- of the asked map, by what it is
module _ (P : List ℕ) (fit : Fit) (i : ℕ) where
  pub nth_refused : (e : PsbtError) → fit ≡ Err e → Err e ≡ nth i (held_of P fit)
  unfolding nth held_of
  nth_refused e q = rw q

  pub nth_of_map : (m : MapEntry) → fit ≡ Ok m → (r : Nth) → r ≡ nth i (holds (entries_of P m)) → r ≡ nth i (held_of P fit)
  unfolding held_of
  nth_of_map m q r e = e ∙ sym (rw q)

pub nth_is : (P : List ℕ) (fit : Fit) (i : ℕ) (h : Held) (r : Nth) → r ≡ nth i (held_of P fit) → held_of P fit ≡ h → told_nth r ≡ told_nth (nth i h)
nth_is P fit i h r e q = ap told_nth (e ∙ ap (nth i) q)

pub ruleset nths_of = (nth_refused, nth_of_map)

-- its key and its value
module _ (f : List ℕ) (o : Nth) where
  pub key_refused : (e : PsbtError) → o ≡ Err e → [] ≡ key_part f o
  unfolding key_part
  key_refused e q = rw q

  pub value_refused : (e : PsbtError) → o ≡ Err e → [] ≡ value_part f o
  unfolding value_part
  value_refused e q = rw q

  module _ (e : PairEntry) (q : o ≡ Ok e) (v : List ℕ) where
    pub key_there : v ≡ key_in_def f e → v ≡ key_part f o
    unfolding key_part
    key_there h = h ∙ sym (rw q)

    pub value_there : v ≡ value_in_def f e → v ≡ value_part f o
    unfolding value_part
    value_there h = h ∙ sym (rw q)

module _ (f v : List ℕ) (x y : Nth) (q : told_nth x ≡ told_nth y) where
  pub key_is : v ≡ key_part f x → v ≡ key_part f y
  key_is e = e ∙ ap (key_part f) (nth_one x y q)

  pub value_is : v ≡ value_part f x → v ≡ value_part f y
  value_is e = e ∙ ap (value_part f) (nth_one x y q)

pub ruleset nth_parts = (key_refused, value_refused, key_there, value_there)
