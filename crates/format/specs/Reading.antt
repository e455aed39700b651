-- Reading a file, whatever the room: what happens in it, in order, up to the first refusal or to its content.
use Rattle.std.specs.Prelude.{ℕ, zero, suc, List, [], ◌∷◌, length, take, drop, leb, eqb, Ok, Err}
use Rattle.format.specs.Tests.{pick}
use Rattle.format.specs.Compact.{size}
use Rattle.format.specs.Keys.{order, same}
use Rattle.format.specs.Rules.{rule, GLOBAL, INPUT, OUTPUT}
use Rattle.format.specs.Content.{Pair, Map, Content, magic, field, counted, global_rule, modifiable, outputs_rule}
use Rattle.format.specs.declared.PsbtError.{PsbtError}
use Rattle.format.specs.declared.PsbtError.TheVariants.{InvalidMagic, UnexpectedEof, DuplicateKey, UnsortedKeys, TooLong}
use Rattle.std.specs.declared.cmp.Ordering.{Ordering}
use Rattle.format.specs.Answers.{Ruled, Size}
use Rattle.std.specs.declared.cmp.Ordering.TheVariants.{Less, Equal, Greater}

-- the most bytes that a file may have
unfoldable pub limit : ℕ
limit = 1_048_576

-- what is asked of a pair by itself: of its key and its value
abbrev pub FieldRule : Type 0
FieldRule = List ℕ → List ℕ → Ruled

-- what stands where a pair may begin: a refusal; the map's end, its bytes and what is left; a pair and what is left
pub data Item : Type 0 where
  stop : PsbtError → Item
  over : List ℕ → List ℕ → Item
  one : Pair → List ℕ → Item

-- a pair that is read, by its field rule
unfoldable pub ruled : Pair → List ℕ → Ruled → Item
ruled p r (Ok u) = one p r
ruled p r (Err e) = stop e

-- a value in front of r, by its length
unfoldable pub valued : FieldRule → List ℕ → List ℕ → List ℕ → Size → Item
valued ρ a key r (Err e) = stop e
valued ρ a key r (Ok r') =
    pick (leb r'.value (length (drop r'.used r)))
    (ruled (record { klen = a; key = key; vlen = take r'.used r; value = take r'.value (drop r'.used r) }) (drop r'.value (drop r'.used r))
    (ρ key (take r'.value (drop r'.used r))))
    (stop UnexpectedEof)

-- a key in front of r, by the order of the last key to it: the order is tested before the value is read
unfoldable pub risen : FieldRule → List ℕ → List ℕ → List ℕ → Ordering → Item
risen ρ a key r Less = valued ρ a key r (size r)
risen ρ a key r Equal = stop DuplicateKey
risen ρ a key r Greater = stop UnsortedKeys

-- n bytes of a key in front of r, behind its length's bytes a
unfoldable pub keyed : FieldRule → List ℕ → List ℕ → ℕ → List ℕ → Item
keyed ρ last a n r = pick (leb n (length r)) (risen ρ a (take n r) (drop n r) (order last (take n r))) (stop UnexpectedEof)

-- an item in front of s, by the key's length: 0 ends the map
unfoldable pub item_by_def : FieldRule → List ℕ → List ℕ → Size → Item
item_by_def ρ last s (Err e) = stop e
item_by_def ρ last s (Ok r) = pick (eqb r.value 0) (over (take r.used s) (drop r.used s)) (keyed ρ last (take r.used s) r.value (drop r.used s))

-- the item in front of s, in a map of field rule ρ whose last key is `last` (empty before its first)
unfoldable pub item : FieldRule → List ℕ → List ℕ → Item
item ρ last s = item_by_def ρ last s (size s)

-- a map that is read: its pairs, its end's bytes and what is left; or its pairs up to a refusal
pub data Mapped : Type 0 where
  ends : List Pair → List ℕ → List ℕ → Mapped
  stops : List Pair → PsbtError → Mapped

-- a pair in front
unfoldable pub front : Pair → Mapped → Mapped
front p (ends ps a r) = ends (p ∷ ps) a r
front p (stops ps e) = stops (p ∷ ps) e

-- an item and then, behind a pair, the items j of what is left
unfoldable pub turn : (List ℕ → List ℕ → Mapped) → Item → Mapped
turn j (stop e) = stops [] e
turn j (over a r) = ends [] a r
turn j (one p r) = front p (j p.key r)

-- item after item, at most n of them
unfoldable pub items : ℕ → FieldRule → List ℕ → List ℕ → Mapped
items zero ρ last s = stops [] UnexpectedEof
items (suc n) ρ last s = turn (items n ρ) (item ρ last s)

-- the map in front of s: an item takes a byte, so there are no more items than bytes
unfoldable pub mapped : FieldRule → List ℕ → Mapped
mapped ρ s = items (suc (length s)) ρ [] s

-- what happens in a file: maps begin, pairs pass, maps end; last a refusal, or the content
pub data Reading : Type 0 where
  done : Content → Reading
  refusal : PsbtError → Reading
  begins : Reading → Reading
  pair : Pair → Reading → Reading
  ended : List ℕ → Reading → Reading

-- pairs pass, and then t
unfoldable pub pair_events : List Pair → Reading → Reading
pair_events [] t = t
pair_events (p ∷ ps) t = pair p (pair_events ps t)

-- in a map, and then j of the map and what is left
unfoldable pub map_events : (Map → List ℕ → Reading) → Mapped → Reading
map_events j (stops ps e) = pair_events ps (refusal e)
map_events j (ends ps a r) = pair_events ps (ended a (j (record { pairs = ps; end = a }) r))

-- in n maps of field rule ρ, each read from where the one before it ended, and then j of them and what is left
unfoldable pub maps_events : FieldRule → ℕ → List ℕ → (List Map → List ℕ → Reading) → Reading
maps_events ρ zero s j = j [] s
maps_events ρ (suc n) s j = begins (map_events (λ m r. maps_events ρ n r (λ ms q. j (m ∷ ms) q)) (mapped ρ s))

-- go on where a rule passes
unfoldable pub unless : Ruled → Reading → Reading
unless (Ok u) t = t
unless (Err e) t = refusal e

-- a version of the format
pub record Version : Type 0 where
  -- the field rules of the pairs of its maps
  pub global : FieldRule
  pub input : FieldRule
  pub output : FieldRule
  -- the rule of the global map, asked where that map ends
  pub early : List Pair → Ruled
  -- how many inputs and outputs follow, by the global map
  pub inputs : List Pair → ℕ
  pub outputs : List Pair → ℕ
  -- the rule of the outputs, by the global map, asked after all maps
  pub late : List Pair → List Map → Ruled

-- version 2
abbrev pub two : Version
two = record {
  global = rule GLOBAL;
  input = rule INPUT;
  output = rule OUTPUT;
  early = global_rule;
  inputs = λ g. counted (field 0x04 g);
  outputs = λ g. counted (field 0x05 g);
  late = λ g os. outputs_rule (modifiable (field 0x06 g)) os;
}

-- after all maps: nothing is left over, and then the outputs' rule
unfoldable pub lastly : Version → Map → List Map → List Map → List ℕ → Reading
lastly v g is os [] = unless (v.late g.pairs os) (done (record { global = g; ins = is; outs = os }))
lastly v g is os (x ∷ r) = refusal UnexpectedEof

-- after the global map: its rule, then as many inputs and outputs as it counts
unfoldable pub global_then : Version → Map → List ℕ → Reading
global_then v g r =
    unless (v.early g.pairs)
    (maps_events v.input (v.inputs g.pairs) r (λ is q. maps_events v.output (v.outputs g.pairs) q (λ os x. lastly v g is os x)))

-- in a file of a version: its length, its magic, its maps
unfoldable pub events_of : Version → List ℕ → Reading
events_of v f =
    pick (leb (length f) limit)
    (pick (same (take 5 f) magic) (begins (map_events (global_then v) (mapped v.global (drop 5 f)))) (refusal InvalidMagic))
    (refusal TooLong)

-- in a file of version 2
unfoldable pub events : List ℕ → Reading
events f = events_of two f

-- the verdict
pub data Verdict : Type 0 where
  accepted : Content → Verdict
  refused : PsbtError → Verdict

-- the verdict at the end of a reading
unfoldable pub outcome : Reading → Verdict
outcome (done c) = accepted c
outcome (refusal e) = refused e
outcome (begins r) = outcome r
outcome (pair p r) = outcome r
outcome (ended a r) = outcome r

-- the verdict on a file of a version
unfoldable pub reading_of : Version → List ℕ → Verdict
reading_of v f = outcome (events_of v f)

-- the verdict on a file of version 2
unfoldable pub reading : List ℕ → Verdict
reading f = outcome (events f)
