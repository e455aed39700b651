-- Every reading is orderly: its maps begin and end by turns, and a refusal is one that its place gives, be it in the global map, at its end or behind it.
use mathlib.Core.Path.{◌≡◌, refl}
use mathlib.Core.Bool.{Bool, true, not, ◌&&◌, ◌||◌}
use mathlib.Core.List.{List, [], ◌∷◌}
use Prim.Native.Nat.{ℕ, zero, suc}
use lib.Dec.{leb, eqb}
use lib.ListN.{length, take, drop}
use Rattle.format.specs.Refusals.{number_of}
use Rattle.format.specs.Compact.{size, count}
use Rattle.format.specs.Keys.{type_of, data_of, order, same}
use Rattle.format.specs.Rules.{GLOBAL, INPUT, OUTPUT, span, within, value_fits, is_row, row_rule, sized_types, sizes_in, sizes}
use Rattle.format.specs.Rules.{count_rule, bare_rule, and_then, rule}
use Rattle.format.specs.Content.{Pair, Map, magic, field, present, number, global_rule, modifiable, output_by, output_rule, outputs_rule}
use Rattle.format.specs.Reading.{limit, FieldRule, Item, stop, over, one, ruled, valued, risen, keyed, item_by_def, item, Mapped}
use Rattle.format.specs.Reading.{ends, stops, front, turn, items, mapped, Reading, done, refusal, begins, pair, ended, pair_events}
use Rattle.format.specs.Reading.{map_events, maps_events, unless, two, lastly, global_then, events_of, events}
use Rattle.format.specs.declared.PsbtError.{PsbtError}
use Rattle.format.specs.declared.PsbtError.TheVariants.{UnexpectedEof, InvalidCompactSize, DuplicateKey, UnsortedKeys, BadValue}
use Rattle.format.specs.declared.PsbtError.TheVariants.{MissingCounts, NotAllowed, MissingOutputScript, InvalidSilentPayment}
use Rattle.std.specs.declared.cmp.Ordering.{Ordering}
use Rattle.format.specs.Answers.{Ruled, Size}
use Rattle.std.specs.declared.cmp.Ordering.TheVariants.{Less, Equal, Greater}
use Rattle.std.specs.Prelude.{Ok, Err}
use Rattle.format.specs.declared.SizedType.{SizedType}
use Rattle.format.proofs.Tests.{pick_by, and_left, never_true}
use Rattle.format.proofs.Compact.{RefusedBy, size_refused, count_refused}
use Rattle.claims_reading.specs.Given.{given, of_file}

-- a set of refusals
abbrev pub Set : Type 1
Set = PsbtError → Type 0

-- a rule, an item, a map whose refusal is one of a set
abbrev pub RuledOf : Set → Ruled → Type 0
RuledOf Q (Ok u) = Unit {0}
RuledOf Q (Err e) = Q e

abbrev ItemOf : Set → Item → Type 0
ItemOf Q (stop e) = Q e
ItemOf Q (over a r) = Unit {0}
ItemOf Q (one p r) = Unit {0}

abbrev MappedOf : Set → Mapped → Type 0
MappedOf Q (ends ps a r) = Unit {0}
MappedOf Q (stops ps e) = Q e

-- a reading before which o maps stand begun, none or one, and whose refusal is one of a set
abbrev pub OrderlyBy : Set → ℕ → Reading → Type 0
OrderlyBy Q o (done c) = o ≡ 0
OrderlyBy Q o (refusal e) = Q e
OrderlyBy Q zero (begins r) = OrderlyBy Q 1 r
OrderlyBy Q (suc o) (begins r) = ⊥
OrderlyBy Q o (pair p r) = OrderlyBy Q o r
OrderlyBy Q zero (ended a r) = ⊥
OrderlyBy Q (suc o) (ended a r) = OrderlyBy Q o r

-- a set that has all refusals that may be given behind the global map
pub record Later (Q : Set) : Type 0 where
  pub eof : Q UnexpectedEof
  pub compact : Q InvalidCompactSize
  pub twice : Q DuplicateKey
  pub falls : Q UnsortedKeys
  pub value : Q BadValue
  pub script : Q MissingOutputScript
  pub payment : Q InvalidSilentPayment

-- and one that has those of the global map too
pub record Early (Q : Set) : Type 0 where
  pub later : Later Q
  pub counts : Q MissingCounts
  pub version : Q NotAllowed

module _ (Q : Set) where
  then_of : (a b : Ruled) → RuledOf Q a → RuledOf Q b → RuledOf Q (and_then a b)
  unfolding and_then
  then_of (Ok u) b h i = i
  then_of (Err e) b h i = h

  count_of : (y : Size) → RefusedBy Q y → RuledOf Q (count_rule y)
  unfolding count_rule
  count_of (Ok r) h = tt
  count_of (Err e) h = h

  ruled_of : (p : Pair) (r : List ℕ) (y : Ruled) → RuledOf Q y → ItemOf Q (ruled p r y)
  unfolding ruled
  ruled_of p r (Ok u) h = tt
  ruled_of p r (Err e) h = h

  front_of : (p : Pair) (x : Mapped) → MappedOf Q x → MappedOf Q (front p x)
  unfolding front
  front_of p (ends ps a r) h = tt
  front_of p (stops ps e) h = h

  turn_of_lem : (j : List ℕ → List ℕ → Mapped) → ((l t : List ℕ) → MappedOf Q (j l t)) → (o : Item) → ItemOf Q o → MappedOf Q (turn j o)
  unfolding turn
  turn_of_lem j h (stop e) i = i
  turn_of_lem j h (over a r) i = tt
  turn_of_lem j h (one p r) i = front_of p (j p.key r) (h p.key r)

  pairs_orderly : (ps : List Pair) (o : ℕ) (t : Reading) → OrderlyBy Q o t → OrderlyBy Q o (pair_events ps t)
  unfolding pair_events
  pairs_orderly [] o t h = h
  pairs_orderly (p ∷ ps) o t h = pairs_orderly ps o t h

  map_orderly : (j : Map → List ℕ → Reading) → ((m : Map) (r : List ℕ) → OrderlyBy Q 0 (j m r)) → (x : Mapped) → MappedOf Q x → OrderlyBy Q 1 (map_events j x)
  unfolding map_events
  map_orderly j h (stops ps e) i = pairs_orderly ps 1 (refusal e) i
  map_orderly j h (ends ps a r) i = pairs_orderly ps 1 (ended a (j (record { pairs = ps; end = a }) r)) (h (record { pairs = ps; end = a }) r)

  unless_orderly : (y : Ruled) (t : Reading) → RuledOf Q y → OrderlyBy Q 0 t → OrderlyBy Q 0 (unless y t)
  unfolding unless
  unless_orderly (Ok u) t h i = i
  unless_orderly (Err e) t h i = h

-- the global map's own rule gives but two
pub global_of : (Q : Set) → Q MissingCounts → Q NotAllowed → (g : List Pair) → RuledOf Q (global_rule g)
unfolding global_rule
global_of Q counts version g =
    pick_by (RuledOf Q) (present (field 0x02 g) && (present (field 0x04 g) && (present (field 0x05 g) && present (field 0xfb g)))) _ _
    (λ q. pick_by (RuledOf Q) (eqb (number (field 0xfb g)) 2) _ _ (λ w. tt) (λ w. version))
    (λ q. counts)

module _ (Q : Set) (has : Later Q) where
  size_of : (s : List ℕ) → RefusedBy Q (size s)
  size_of s = size_refused Q has.eof has.compact s

  sizes_of_lem : (rs : List SizedType) (k t n m : ℕ) → RuledOf Q (sizes_in rs k t n m)
  unfolding sizes_in row_rule
  sizes_of_lem [] k t n m = tt
  sizes_of_lem (r ∷ rs) k t n m =
      pick_by (RuledOf Q) (is_row r k t) _ _
      (λ q. pick_by (RuledOf Q) (r.bare && not (eqb n 0)) _ _ (λ w. tt)
      (λ w. pick_by (RuledOf Q) (eqb n r.dlen && value_fits r.vlen m) _ _ (λ x. tt) (λ x. has.value)))
      (λ q. sizes_of_lem rs k t n m)

  -- a field rule, by what a bare key of the global map is asked besides
  rule_by_lem : (k : ℕ) (key v : List ℕ) → (eqb k GLOBAL ≡ true → RuledOf Q (bare_rule (type_of key) v)) → RuledOf Q (rule k key v)
  unfolding rule sizes
  rule_by_lem k key v g =
      then_of Q _ _ (sizes_of_lem sized_types k (type_of key) (length (data_of key)) (length v))
      (pick_by (RuledOf Q) (eqb k GLOBAL && eqb (length (data_of key)) 0) _ _ (λ q. g (and_left _ _ q)) (λ q. tt))

  output_of : (flags script code label : Bool) → RuledOf Q (output_by flags script code label)
  unfolding output_by
  output_of flags script code label =
      pick_by (RuledOf Q) (script || code) _ _
      (λ q. pick_by (RuledOf Q) (script && (code && flags)) _ _ (λ w. has.payment)
      (λ w. pick_by (RuledOf Q) (label && not code) _ _ (λ x. has.payment) (λ x. tt)))
      (λ q. has.script)

  outputs_of : (flags : Bool) (ms : List Map) → RuledOf Q (outputs_rule flags ms)
  unfolding outputs_rule output_rule
  outputs_of flags [] = tt
  outputs_of flags (m ∷ ms) = then_of Q _ _ (output_of flags _ _ _) (outputs_of flags ms)

  -- items and maps, under a field rule whose refusals are of the set
  module _ (ρ : FieldRule) (of : (key v : List ℕ) → RuledOf Q (ρ key v)) where
    valued_of : (a key r : List ℕ) (y : Size) → RefusedBy Q y → ItemOf Q (valued ρ a key r y)
    unfolding valued
    valued_of a key r (Err e) h = h
    valued_of a key r (Ok r') h =
        pick_by (ItemOf Q) (leb r'.value (length (drop r'.used r))) _ _ (λ q. ruled_of Q _ _ _ (of key (take r'.value (drop r'.used r)))) (λ q. has.eof)

    risen_of : (a key r : List ℕ) (o : Ordering) → ItemOf Q (risen ρ a key r o)
    unfolding risen
    risen_of a key r Less = valued_of a key r (size r) (size_of r)
    risen_of a key r Equal = has.twice
    risen_of a key r Greater = has.falls

    by_size : (last s : List ℕ) (y : Size) → RefusedBy Q y → ItemOf Q (item_by_def ρ last s y)
    unfolding item_by_def keyed
    by_size last s (Err e) h = h
    by_size last s (Ok r) h =
        pick_by (ItemOf Q) (eqb r.value 0) _ _ (λ q. tt)
        (λ q. pick_by (ItemOf Q) (leb r.value (length (drop r.used s))) _ _ (λ w. risen_of _ _ _ (order last (take r.value (drop r.used s)))) (λ w. has.eof))

    item_of : (last s : List ℕ) → ItemOf Q (item ρ last s)
    unfolding item
    item_of last s = by_size last s (size s) (size_of s)

    items_of : (n : ℕ) (last s : List ℕ) → MappedOf Q (items n ρ last s)
    unfolding items
    items_of zero last s = has.eof
    items_of (suc n) last s = turn_of_lem Q (items n ρ) (λ l t. items_of n l t) (item ρ last s) (item_of last s)

    maps_orderly : (n : ℕ) (s : List ℕ) (j : List Map → List ℕ → Reading) → ((ms : List Map) (r : List ℕ) → OrderlyBy Q 0 (j ms r))
        → OrderlyBy Q 0 (maps_events ρ n s j)
    unfolding maps_events mapped
    maps_orderly zero s j h = h [] s
    maps_orderly (suc n) s j h =
        map_orderly Q _ (λ m r. maps_orderly n r (λ ms q. j (m ∷ ms) q) (λ ms q. h (m ∷ ms) q)) (mapped ρ s) (items_of (suc (length s)) [] s)

  lastly_orderly : (g : Map) (is os : List Map) (q : List ℕ) → OrderlyBy Q 0 (lastly two g is os q)
  unfolding lastly
  lastly_orderly g is os [] = unless_orderly Q _ _ (outputs_of (modifiable (field 0x06 g.pairs)) os) refl
  lastly_orderly g is os (x ∷ q) = has.eof

  -- what is read behind the global map
  pub behind_orderly : (g : Map) (r : List ℕ) (n m : ℕ)
      → OrderlyBy Q 0 (maps_events two.input n r (λ is q. maps_events two.output m q (λ os x. lastly two g is os x)))
  behind_orderly g r n m =
      maps_orderly two.input (λ key v. rule_by_lem INPUT key v (λ q. never_true q)) n r _
      (λ is q. maps_orderly two.output (λ key v. rule_by_lem OUTPUT key v (λ w. never_true w)) m q _ (λ os x. lastly_orderly g is os x))

module _ (Q : Set) (has : Early Q) where
  bare_of : (t : ℕ) (v : List ℕ) → RuledOf Q (bare_rule t v)
  unfolding bare_rule
  bare_of t v =
      pick_by (RuledOf Q) (eqb t 0x00) _ _ (λ q. has.version)
      (λ q. pick_by (RuledOf Q) (eqb t 0x04 || eqb t 0x05) _ _
      (λ w. count_of Q (count v) (count_refused Q has.later.eof has.later.compact v)) (λ w. tt))

  global_orderly : (g : Map) (r : List ℕ) → OrderlyBy Q 0 (global_then two g r)
  unfolding global_then
  global_orderly g r = unless_orderly Q _ _ (global_of Q has.counts has.version g.pairs) (behind_orderly Q has.later g r _ _)

  -- what is read behind the magic
  pub read_orderly : (s : List ℕ) → OrderlyBy Q 1 (map_events (global_then two) (mapped two.global s))
  unfolding mapped
  read_orderly s =
      map_orderly Q (global_then two) global_orderly _
      (items_of Q has.later two.global (λ key v. rule_by_lem Q has.later GLOBAL key v (λ q. bare_of (type_of key) v)) _ [] s)

-- a whole file's refusal is one that a file gives
abbrev OfFile : PsbtError → Type 0
OfFile e = of_file e ≡ true

abbrev pub Orderly : ℕ → Reading → Type 0
Orderly o r = OrderlyBy OfFile o r

of_file_lem : Early OfFile
unfolding of_file given within span number_of
of_file_lem =
    record {
      later = record { eof = refl; compact = refl; twice = refl; falls = refl; value = refl; script = refl; payment = refl };
      counts = refl;
      version = refl;
    }

pub events_orderly : (f : List ℕ) → Orderly 0 (events f)
unfolding events events_of of_file given within span number_of
events_orderly f =
    pick_by (Orderly 0) (leb (length f) limit) _ _
    (λ q. pick_by (Orderly 0) (same (take 5 f) magic) _ _ (λ w. read_orderly OfFile of_file_lem (drop 5 f)) (λ w. refl))
    (λ q. refl)
