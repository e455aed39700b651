-- Laws of finding a key in the pairs of a map, and of what is asked of the value found.
use Rattle.std.specs.Ordering.{is_eq}
use mathlib.Core.Path.{◌≡◌, refl, sym, ◌∙◌, ap}
use mathlib.Core.Bool.{Bool, true, false, not, ◌&&◌}
use mathlib.Core.List.{List, [], ◌∷◌}
use Prim.Native.Nat.{ℕ, ◌+◌, ◌-◌, ◌%◌, ◌≤◌}
use native.Mathlib.Numerals.{add-one}
use native.Mathlib.Omega.{arith}
use borrow.Author.Tests.{leb-true, ltb-false, le-ltb, eq-eqb, ne_eqb}
use lib.Dec.{leb, ltb, eqb}
use lib.ListN.{length, take, drop, get_or, length-take}
use lib.Seq.{take_all}
use Rattle.std.specs.Prelude.{cond, Option, Some, None, find, Ok, Err}
use Rattle.std.specs.Option.{option_map}
use Rattle.format.specs.Tests.{pick}
use Rattle.format.specs.Numbers.{le}
use Rattle.format.specs.Keys.{key_of, order, below, same}
use Rattle.format.specs.Entries.{key_in_def}
use Rattle.format.specs.Tables.{in_file, fit, Held, holds}
use Rattle.format.specs.Lookups.{Length, any_length, place, length_fits, of_length_def, asked, look, part, number_at}
use Rattle.format.specs.declared.PsbtError.{PsbtError}
use Rattle.format.specs.declared.PsbtError.TheVariants.{BadValue}
use Rattle.std.specs.declared.cmp.Ordering.{Ordering}
use Rattle.format.specs.declared.Part.{Part}
use Rattle.format.specs.Answers.{part_at, Looked}
use Rattle.format.specs.declared.PairEntry.{PairEntry}
use Rattle.format.specs.declared.MapEntry.{MapEntry}
use Rattle.format.proofs.Tests.{pick_by, and_left, and_right, no_by}
use Rattle.format.proofs.Keys.{same_is}
use Rattle.format.proofs.Told.{looked_one}
use Rattle.format.specs.Told.{told_looked}
use Rattle.wire.specs.Leads.{lead}
use Rattle.wire.proofs.Sizes.{part_rest}
use Rattle.fitness.specs.Fits.{entries_of, held_of, Sound, Fit}
use Rattle.fitness.specs.Parts.{bytes_at}
use Rattle.lookup.specs.Finds.{length_of, Short, Lies}
use Rattle.lookup.specs.declared.Wanted.{Wanted}
use Rattle.lookup.specs.declared.Wanted.TheVariants as W

-- a key, by its type and its data
other_type : (t x : ℕ) (d k : List ℕ) → (x ≡ t → ⊥) → same (key_of t d) (x ∷ k) ≡ false
unfolding same key_of order
other_type t x d k h =
    pick_by (λ (o : Ordering). is_eq o ≡ false) (ltb t x) _ _ (λ q. refl)
    (λ q. pick_by (λ (o : Ordering). is_eq o ≡ false) (ltb x t) _ _ (λ w. refl) (λ w. absurd (h (omega (arith, ltb-false t x q, ltb-false x t w)))))

own_type : (t x : ℕ) (d k : List ℕ) → x ≡ t → same (key_of t d) (x ∷ k) ≡ same d k
unfolding same key_of order
own_type t x d k h = rw (le-ltb t x (omega arith), le-ltb x t (omega arith))

module _ (t : ℕ) (d : List ℕ) where
  pub key_length : (k g : List ℕ) → k ≡ g → (length k ≡ length d + 1 → ⊥) → eqb (length k) (length d + 1) ≡ same (key_of t d) g
  unfolding key_of
  key_length k g is h =
      ne_eqb (length k) (length d + 1) h
      ∙ sym (no_by (same (key_of t d) g) (λ q. let e : length (t ∷ d) ≡ length g = ap length (same_is (key_of t d) g q) in
      h (ap length is ∙ sym e ∙ sym (add-one (length d)))))

  pub key_typed : (k g : List ℕ) → k ≡ g → length k ≡ length d + 1 → (get_or k 0 0 ≡ t → ⊥) → eqb (get_or k 0 0) t ≡ same (key_of t d) g
  key_typed [] g is some h = absurd (omega arith)
  key_typed (x ∷ k) g is some h = ne_eqb x t h ∙ sym (other_type t x d k h) ∙ ap (same (key_of t d)) is

  pub key_same : (k g : List ℕ) → k ≡ g → length k ≡ length d + 1 → get_or k 0 0 ≡ t → (r : Bool) (o : Ordering) → r ≡ is_eq o
      → o ≡ order d (take (length k - 1) (drop 1 k))
      → r ≡ same (key_of t d) g
  unfolding same
  key_same [] g is some h r o er eo = absurd (omega arith)
  key_same (x ∷ k) g is some h r o er eo =
      er ∙ ap is_eq (eo ∙ ap (order d) (part_rest 1 (x ∷ k))) ∙ sym (own_type t x d k h) ∙ ap (same (key_of t d)) is

pub ruleset keys = (key_length, key_typed, key_same)

-- where a key's value stands is where that of the first entry with the key does
abbrev pub found_entry : Option PairEntry → Option Part
found_entry None = None
found_entry (Some e) = Some (part_at e.value e.vlen)

first_found : (f key : List ℕ) (es : List PairEntry) → ◌≡◌ {A = Looked} (Ok (found_entry (find (λ e. same key (key_in_def f e)) es))) (place f key es)
unfolding place
first_found f key [] = refl
first_found f key (e ∷ es) = by (same key (key_in_def f e)) (first_found f key es)
  where
    by : (b : Bool) → ◌≡◌ {A = Looked} (Ok (found_entry (find (λ x. same key (key_in_def f x)) es))) (place f key es)
        → ◌≡◌ {A = Looked} (Ok (found_entry (cond b (Some e) (find (λ x. same key (key_in_def f x)) es))))
        (pick b (Ok (Some (part_at e.value e.vlen))) (place f key es))
    by true h = refl
    by false h = h

pub found_is : (f key : List ℕ) (es : List PairEntry) (o : Option PairEntry) → option_map (λ e. e) o ≡ find (λ e. same key (key_in_def f e)) es
    → ◌≡◌ {A = Looked} (Ok (found_entry o)) (place f key es)
found_is f key es None q = ap (λ (x : Option PairEntry). Ok (found_entry x)) q ∙ first_found f key es
found_is f key es (Some e) q = ap (λ (x : Option PairEntry). Ok (found_entry x)) q ∙ first_found f key es

-- a length, by which lengths are right
module _ (w : Wanted) (n : ℕ) where
  pub any_length_lem : w ≡ W.AnyLength → true ≡ length_fits (length_of w) n
  unfolding length_of length_fits
  any_length_lem e = rw e

  pub one_length : (k : ℕ) → w ≡ W.Exactly k → eqb n k ≡ length_fits (length_of w) n
  unfolding length_of length_fits
  one_length k e = rw e

  module _ (e : w ≡ W.KeyList) where
    pub empty_list : n ≡ 0 → not (eqb n 0) ≡ length_fits (length_of w) n
    unfolding length_of length_fits
    empty_list h = rw (e, eq-eqb n 0 h)

    pub key_list_lem : (n ≡ 0 → ⊥) → eqb (n % 33) 0 ≡ length_fits (length_of w) n
    unfolding length_of length_fits
    key_list_lem h = rw (e, ne_eqb n 0 h)

pub ruleset lengths = (any_length_lem, one_length, empty_list, key_list_lem)

-- a value, by what was found
module _ (l : Length) (o : Option Part) where
  pub of_absent : o ≡ None → ◌≡◌ {A = Looked} (Ok o) (of_length_def l (Ok o))
  unfolding of_length_def
  of_absent q = rw q

  module _ (p : Part) (q : o ≡ Some p) (b : Bool) (is : b ≡ length_fits l p.len) where
    pub of_right : b ≡ true → ◌≡◌ {A = Looked} (Ok o) (of_length_def l (Ok o))
    unfolding of_length_def
    of_right h = rw (q, sym is ∙ h)

    pub of_wrong : b ≡ false → Err BadValue ≡ of_length_def l (Ok o)
    unfolding of_length_def
    of_wrong h = rw (q, sym is ∙ h)

pub ruleset values = (of_absent, of_right, of_wrong)

-- a typed lookup in a map
module _ (ok : Bool) (l : Length) (f key P : List ℕ) (m : MapEntry) where
  pub asked_bad : ok ≡ false → Err BadValue ≡ asked ok l f key (holds (entries_of P m))
  unfolding asked
  asked_bad h = rw h

  pub asked_place : ok ≡ true → (r : Looked) (x : Option Part) → r ≡ of_length_def l (Ok x) → Ok x ≡ place f key (entries_of P m)
      → r ≡ asked ok l f key (holds (entries_of P m))
  unfolding asked
  asked_place h r x er ex = er ∙ ap (of_length_def l) ex ∙ sym (rw h)

pub ruleset askings = (asked_bad, asked_place)

-- the same, by what the map is
module _ (ok : Bool) (l : Length) (f key P : List ℕ) (fit : Fit) where
  pub asked_refused : (e : PsbtError) → fit ≡ Err e → Err e ≡ asked ok l f key (held_of P fit)
  unfolding asked held_of
  asked_refused e q = rw q

  pub asked_there : (m : MapEntry) → fit ≡ Ok m → (r : Looked) → r ≡ asked ok l f key (holds (entries_of P m)) → r ≡ asked ok l f key (held_of P fit)
  unfolding held_of
  asked_there m q r e = e ∙ sym (rw q)

pub ruleset asked_of = (asked_refused, asked_there)

pub get_is : (f d P : List ℕ) (t : ℕ) (fit : Fit) (h : Held) (r : Looked) → r ≡ asked true (length_of W.AnyLength) f (key_of t d) (held_of P fit)
    → held_of P fit ≡ h
    → told_looked r ≡ told_looked (look f t d h)
unfolding look length_of
get_is f d P t fit h r e q = ap told_looked (e ∙ ap (asked true any_length f (key_of t d)) q)

-- the part that is handed back, and its number
module _ (f : List ℕ) (o : Looked) where
  pub part_refused : (e : PsbtError) → o ≡ Err e → [] ≡ part f o
  unfolding part
  part_refused e q = rw q

  pub part_absent : o ≡ Ok None → [] ≡ part f o
  unfolding part
  part_absent q = rw q

  pub number_refused : (e : PsbtError) → o ≡ Err e → Err e ≡ number_at f o
  unfolding number_at
  number_refused e q = rw q

  pub number_absent : o ≡ Ok None → Ok None ≡ number_at f o
  unfolding number_at
  number_absent q = rw q

  module _ (p : Part) (q : o ≡ Ok (Some p)) (v : List ℕ) (is : v ≡ bytes_at f p.start p.len) where
    pub part_found : v ≡ part f o
    unfolding part bytes_at
    part_found = is ∙ sym (rw q)

    pub number_found : Short o → (x : ℕ) → x ≡ lead 8 v → Ok (Some x) ≡ number_at f o
    unfolding number_at bytes_at lead
    number_found h x e =
        let k : p.len ≤ 8 = h.few p q in
        let g : take 8 v ≡ take p.len (drop p.start f) = ap (take 8) is ∙ take_all 8 (take p.len (drop p.start f)) (rw length-take (omega arith)) in
        ap (λ (n : ℕ). Ok (Some n)) (e ∙ ap le g) ∙ sym (rw q)

pub part_is : (f v : List ℕ) (x y : Looked) → v ≡ part f x → told_looked x ≡ told_looked y → v ≡ part f y
part_is f v x y e q = e ∙ ap (part f) (looked_one x y q)

pub ruleset answers = (part_refused, part_absent, part_found, number_refused, number_absent, number_found)

-- a value that is found lies in the file
pub place_in : (f key last : List ℕ) (es : List PairEntry) → fit f last es ≡ true → Lies f (place f key es)
unfolding fit place in_file
place_in f key last [] h = record { inside = λ p q. let z : ◌≡◌ {A = ℕ} 0 1 = cc in absurd (omega arith) }
place_in f key last (e ∷ es) h =
    let a = and_left (in_file f e && below last (key_in_def f e)) (fit f (key_in_def f e) es) h in
    let v = and_left (leb (e.value + e.vlen) (length f)) (ltb 0 e.klen)
    (and_right (leb (e.key + e.klen) (length f)) _ (and_left (in_file f e) (below last (key_in_def f e)) a)) in
    pick_by (Lies f) (same key (key_in_def f e)) _ _
    (λ q. record {
      inside = λ p w. let x : part_at e.value e.vlen ≡ p = cc in rw (← x) (leb-true (e.value + e.vlen) (length f) v);
    })
    (λ q. place_in f key (key_in_def f e) es (and_right (in_file f e && below last (key_in_def f e)) (fit f (key_in_def f e) es) h))

refused_in : (f : List ℕ) (e : PsbtError) → Lies f (Err e)
refused_in f e = record { inside = λ p q. let z : ◌≡◌ {A = ℕ} 0 1 = cc in absurd (omega arith) }

of_in : (f : List ℕ) (l : Length) (o : Looked) → Lies f o → Lies f (of_length_def l o)
unfolding of_length_def
of_in f l (Err e) h = h
of_in f l (Ok None) h = h
of_in f l (Ok (Some p)) h = pick_by (Lies f) (length_fits l p.len) _ _ (λ q. h) (λ q. refused_in f BadValue)

pub asked_in : (ok : Bool) (l : Length) (f key P : List ℕ) (fit : Fit) → Sound f P fit → Lies f (asked ok l f key (held_of P fit))
unfolding asked held_of
asked_in ok l f key P (Err e) h = refused_in f e
asked_in ok l f key P (Ok m) h =
    pick_by (Lies f) ok _ _ (λ q. of_in f l (place f key (entries_of P m)) (place_in f key [] (entries_of P m) (h.fits m refl))) (λ q. refused_in f BadValue)
