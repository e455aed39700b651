-- A file and its content, both ways: a file is accepted with content c exactly if it is c's bytes and c is fine.
use mathlib.Core.Path.{◌≡◌, refl, sym, ◌∙◌, ap, subst}
use mathlib.Core.List.{List, [], ◌∷◌, ◌++◌}
use Prim.Native.Nat.{ℕ, zero, suc, ◌≤◌, ◌<◌}
use native.Mathlib.Omega.{arith}
use borrow.Author.Tests.{leb-true, le-leb}
use lib.Dec.{leb}
use lib.ListN.{length, take, drop, length-append, take-append-drop}
use Rattle.format.specs.Keys.{same}
use Rattle.format.specs.Content.{Pair, Map, Content, maps_of, magic, pair_bytes, pairs_bytes, map_bytes, maps_bytes, bytes, psbt_of}
use Rattle.format.specs.Reading.{limit, FieldRule, Item, stop, over, one, item, Mapped, ends, stops, front, turn, items, mapped, Reading}
use Rattle.format.specs.Reading.{done, refusal, begins, ended, pair_events, map_events, maps_events, unless, Version, two, lastly, global_then}
use Rattle.format.specs.Reading.{events_of, events, Verdict, accepted, refused, outcome, reading_of, reading}
use Rattle.format.specs.Tables.{maps_reported}
use Rattle.format.specs.Answers.{passed, Ruled}
use Rattle.std.specs.Prelude.{Ok, Err}
use Rattle.format.proofs.Tests.{pick_by}
use Rattle.format.proofs.Numbers.{All}
use Rattle.format.proofs.Compact.{Spells}
use Rattle.format.proofs.Keys.{same_is, same_self}
use Rattle.claims_reading.specs.Fine.{Framed, Rises, RisesFile, Fine, FineMap, FineOf, FineFile}
use Rattle.claims_reading.proofs.Items.{item_over, item_one, OneIs, ItemIs, item_is}

-- from the content to the reading
pub pair_some : (p : Pair) (r : List ℕ) → Framed p → suc (length r) ≤ length (pair_bytes p r)
unfolding pair_bytes
pair_some p r f = simp length-append (omega (arith, f.some))

pairs_some : (ps : List Pair) (r : List ℕ) → All Framed ps → length ps ≤ length (pairs_bytes ps r)
unfolding pairs_bytes
pairs_some [] r f = omega arith
pairs_some (p ∷ ps) r f = omega (arith, pair_some p (pairs_bytes ps r) f.0, pairs_some ps r f.1)

items_of : (n : ℕ) (ρ : FieldRule) (last : List ℕ) (ps : List Pair) (e r : List ℕ)
    → Fine ρ last ps → Spells e 0 → length ps < n → items n ρ last (pairs_bytes ps (e ++ r)) ≡ ends ps e r
unfolding items turn front pairs_bytes
items_of zero ρ last ps e r h s l = absurd (omega arith)
items_of (suc n) ρ last [] e r h s l = rw (item_over ρ last e r s)
items_of (suc n) ρ last (p ∷ ps) e r h s l =
    rw (
      item_one ρ last p (pairs_bytes ps (e ++ r)) h.framed.0 h.rises.0 h.keeps.0,
      items_of n ρ p.key ps e r (record { framed = h.framed.1; rises = h.rises.1; keeps = h.keeps.1 }) s (omega arith),
    )

mapped_of : (ρ : FieldRule) (m : Map) (r : List ℕ) → FineMap ρ m → mapped ρ (map_bytes m r) ≡ ends m.pairs m.end r
unfolding mapped map_bytes
mapped_of ρ m r h = items_of _ ρ [] m.pairs m.end r h.pairs h.end (omega (arith, pairs_some m.pairs (m.end ++ r) h.pairs.framed))

-- what happens in a fine content's bytes
unfoldable pub maps_trace : List Map → Reading → Reading
maps_trace [] t = t
maps_trace (m ∷ ms) t = begins (pair_events m.pairs (ended m.end (maps_trace ms t)))

trace_append : (ms ns : List Map) (t : Reading) → maps_trace (ms ++ ns) t ≡ maps_trace ms (maps_trace ns t)
unfolding maps_trace
trace_append [] ns t = refl
trace_append (m ∷ ms) ns t = ap (λ (r : Reading). begins (pair_events m.pairs (ended m.end r))) (trace_append ms ns t)

maps_events_lem : (ρ : FieldRule) (ms : List Map) (r : List ℕ) (j : List Map → List ℕ → Reading)
    → All (FineMap ρ) ms → maps_events ρ (length ms) (maps_bytes ms r) j ≡ maps_trace ms (j ms r)
unfolding maps_events maps_bytes maps_trace map_events
maps_events_lem ρ [] r j h = refl
maps_events_lem ρ (m ∷ ms) r j h = rw (mapped_of ρ m (maps_bytes ms r) h.0)
    (ap (λ (x : Reading). begins (pair_events m.pairs (ended m.end x))) (maps_events_lem ρ ms r (λ ns q. j (m ∷ ns) q) h.1))

events_of_lem : (v : Version) (c : Content) → FineOf v c → events_of v (bytes c) ≡ maps_trace (maps_of c) (done c)
unfolding events_of bytes map_events global_then unless lastly maps_of maps_trace
events_of_lem v c h =
    rw (
      le-leb _ _ h.short,
      same_self magic,
      mapped_of v.global c.global (maps_bytes c.ins (maps_bytes c.outs [])) h.global,
      h.rule,
      ← h.ins#,
      ← h.outs#,
    )
    (ap (λ (x : Reading). begins (pair_events c.global.pairs (ended c.global.end x)))
    (maps_events_lem v.input c.ins (maps_bytes c.outs []) _ h.ins ∙ ap (maps_trace c.ins)
    (maps_events_lem v.output c.outs [] _ h.outs ∙ ap (maps_trace c.outs) (rw h.late)) ∙ sym (trace_append c.ins c.outs (done c))))

pub pairs_outcome : (ps : List Pair) (t : Reading) → outcome (pair_events ps t) ≡ outcome t
unfolding outcome pair_events
pairs_outcome [] t = refl
pairs_outcome (p ∷ ps) t = pairs_outcome ps t

maps_outcome : (ms : List Map) (t : Reading) → outcome (maps_trace ms t) ≡ outcome t
unfolding outcome maps_trace
maps_outcome [] t = refl
maps_outcome (m ∷ ms) t = pairs_outcome m.pairs (ended m.end (maps_trace ms t)) ∙ maps_outcome ms t

-- so the bytes of a fine content are accepted, in any version and in version 2
pub readings_of : (v : Version) (c : Content) → FineOf v c → reading_of v (bytes c) ≡ accepted c
unfolding reading_of outcome
readings_of v c h = ap outcome (events_of_lem v c h) ∙ maps_outcome (maps_of c) (done c)

pub reading_of_lem : (c : Content) → FineFile c → reading (bytes c) ≡ accepted c
unfolding reading reading_of events
reading_of_lem c h = readings_of two c h

-- from the reading to the content
abbrev pub MappedIs : FieldRule → List ℕ → List ℕ → Mapped → Type 0
MappedIs ρ last s (stops ps e) = Unit {0}
MappedIs ρ last s (ends ps e r) = (pairs_bytes ps (e ++ r) ≡ s) × Fine ρ last ps × Spells e 0

front_is : (ρ : FieldRule) (last s r : List ℕ) (p : Pair) (o : Mapped) → OneIs ρ last s p r → MappedIs ρ p.key r o → MappedIs ρ last s (front p o)
unfolding front pairs_bytes
front_is ρ last s r p (stops ps e) i h = tt
front_is ρ last s r p (ends ps e q) i h = (
  ap (pair_bytes p) h.0 ∙ i.is,
  record { framed = (i.framed, h.1.framed); rises = (i.rises, h.1.rises); keeps = (i.keeps, h.1.keeps) },
  h.2,
)

turn_is : (ρ : FieldRule) (last s : List ℕ) (j : List ℕ → List ℕ → Mapped)
    → ((l t : List ℕ) → MappedIs ρ l t (j l t)) → (o : Item) → ItemIs ρ last s o → MappedIs ρ last s (turn j o)
unfolding turn pairs_bytes
turn_is ρ last s j h (stop e) i = tt
turn_is ρ last s j h (over a r) i = (i.0, record { framed = tt; rises = tt; keeps = tt }, i.1)
turn_is ρ last s j h (one p r) i = front_is ρ last s r p (j p.key r) i (h p.key r)

pub items_is : (n : ℕ) (ρ : FieldRule) (last s : List ℕ) → MappedIs ρ last s (items n ρ last s)
unfolding items
items_is zero ρ last s = tt
items_is (suc n) ρ last s = turn_is ρ last s (items n ρ) (λ l t. items_is n ρ l t) (item ρ last s) (item_is ρ last s)

abbrev VerdictIs : Version → List ℕ → Verdict → Type 0
VerdictIs v f (refused e) = Unit {0}
VerdictIs v f (accepted c) = (bytes c ≡ f) × FineOf v c

abbrev Holds : Version → List ℕ → Reading → Type 0
Holds v f r = VerdictIs v f (outcome r)

unless_holds : (v : Version) (f : List ℕ) (t : Reading) (y : Ruled) → (y ≡ passed → Holds v f t) → Holds v f (unless y t)
unfolding unless outcome
unless_holds v f t (Ok u) h = h refl
unless_holds v f t (Err e) h = tt

map_holds : (v : Version) (f : List ℕ) (ρ : FieldRule) (s : List ℕ) (j : Map → List ℕ → Reading)
    → ((m : Map) (r : List ℕ) → map_bytes m r ≡ s → FineMap ρ m → Holds v f (j m r)) → (o : Mapped) → MappedIs ρ [] s o → Holds v f (map_events j o)
unfolding map_events map_bytes outcome
map_holds v f ρ s j h (stops ps e) i = rw (pairs_outcome ps (refusal e)) tt
map_holds v f ρ s j h (ends ps e r) i = rw (pairs_outcome ps (ended e (j (record { pairs = ps; end = e }) r)))
    (h (record { pairs = ps; end = e }) r i.0 (record { pairs = i.1; end = i.2 }))

maps_hold : (v : Version) (f : List ℕ) (ρ : FieldRule) (n : ℕ) (s : List ℕ) (j : List Map → List ℕ → Reading)
    → ((ms : List Map) (r : List ℕ) → maps_bytes ms r ≡ s → All (FineMap ρ) ms → length ms ≡ n → Holds v f (j ms r)) → Holds v f (maps_events ρ n s j)
unfolding maps_events maps_bytes outcome mapped
maps_hold v f ρ zero s j h = h [] s refl tt refl
maps_hold v f ρ (suc n) s j h =
    map_holds v f ρ s _ (λ m r e F. maps_hold v f ρ n r (λ ms q. j (m ∷ ms) q) (λ ms q i G l. h (m ∷ ms) q (ap (map_bytes m) i ∙ e) (F, G) (ap suc l)))
    (mapped ρ s) (items_is (suc (length s)) ρ [] s)

module _ (v : Version) (f s : List ℕ) (is : magic ++ s ≡ f) (short : length f ≤ limit) where
  lastly_holds : (g : Map) (ms os : List Map) (q : List ℕ)
      → map_bytes g (maps_bytes ms (maps_bytes os q)) ≡ s → FineMap v.global g → v.early g.pairs ≡ passed
      → All (FineMap v.input) ms → length ms ≡ v.inputs g.pairs
      → All (FineMap v.output) os → length os ≡ v.outputs g.pairs → Holds v f (lastly v g ms os q)
  unfolding lastly outcome bytes
  lastly_holds g ms os (x ∷ q) e G z I i# O o# = tt
  lastly_holds g ms os [] e G z I i# O o# =
      let b : magic ++ map_bytes g (maps_bytes ms (maps_bytes os [])) ≡ f = rw e is in
      unless_holds v f _ (v.late g.pairs os)
      (λ t. (
        b,
        record { global = G; ins = I; outs = O; rule = z; ins# = i#; outs# = o#; late = t; short = subst (λ (x : List ℕ). length x ≤ limit) (sym b) short },
      ))

  global_holds : (g : Map) (r : List ℕ) → map_bytes g r ≡ s → FineMap v.global g → Holds v f (global_then v g r)
  unfolding global_then
  global_holds g r e G =
      unless_holds v f _ (v.early g.pairs)
      (λ t. maps_hold v f v.input _ r _ (λ ms q i I i#. maps_hold v f v.output _ q _ (λ os x j O o#.
      lastly_holds g ms os x (ap (λ (y : List ℕ). map_bytes g (maps_bytes ms y)) j ∙ ap (map_bytes g) i ∙ e) G t I i# O o#)))

verdict_is : (v : Version) (f : List ℕ) → Holds v f (events_of v f)
unfolding events_of mapped outcome
verdict_is v f =
    pick_by (Holds v f) (leb (length f) limit) _ _
    (λ l. pick_by (Holds v f) (same (take 5 f) magic) _ _
    (λ t. map_holds v f v.global (drop 5 f) (global_then v)
    (global_holds v f (drop 5 f) (ap (λ (x : List ℕ). x ++ drop 5 f) (sym (same_is _ _ t)) ∙ take-append-drop 5 f) (leb-true _ _ l)) _
    (items_is _ v.global [] (drop 5 f)))
    (λ t. tt))
    (λ l. tt)

-- so what is accepted is the bytes of its content, which is fine, in any version and in version 2
pub readings_is : (v : Version) (f : List ℕ) (c : Content) → reading_of v f ≡ accepted c → (bytes c ≡ f) × FineOf v c
unfolding reading_of
readings_is v f c e = rw e at (verdict_is v f)

pub reading_is : (f : List ℕ) (c : Content) → reading f ≡ accepted c → (bytes c ≡ f) × FineFile c
unfolding reading reading_of events
reading_is f c e = readings_is two f c e

-- so what happens in an accepted file is known
pub accepted_events : (f : List ℕ) (c : Content) → reading f ≡ accepted c → events f ≡ maps_trace (maps_of c) (done c)
accepted_events f c e = let i = reading_is f c e in ap events (sym i.0) ∙ unfold events in events_of_lem two c i.1

-- an accepted file has the maps that it reports
pub one_plus_counts : (f : List ℕ) (c : Content) → reading f ≡ accepted c → length (maps_of c) ≡ maps_reported (psbt_of c.global.pairs)
unfolding maps_of maps_reported psbt_of
one_plus_counts f c e =
    let h = (reading_is f c e).1 in
    rw (length-append, h.ins#, h.outs#) (omega arith)

-- the keys of an accepted file rise
rise_all : (ρ : FieldRule) (ms : List Map) → All (FineMap ρ) ms → All (λ (m : Map). Rises [] m.pairs) ms
rise_all ρ [] h = tt
rise_all ρ (m ∷ ms) h = (h.0.pairs.rises, rise_all ρ ms h.1)

pub keys_rise : (f : List ℕ) (c : Content) → reading f ≡ accepted c → RisesFile c
keys_rise f c e =
    let h = (reading_is f c e).1 in
    record { global = h.global.pairs.rises; ins = rise_all two.input c.ins h.ins; outs = rise_all two.output c.outs h.outs }
