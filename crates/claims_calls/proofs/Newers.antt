-- Pairs of unlisted types may be added and struck: the file stays accepted and answers alike.
use mathlib.Core.Path.{◌≡◌, refl, sym, ◌∙◌, ap, ap₂, subst}
use mathlib.Core.List.{List, [], ◌∷◌, ◌++◌, map}
use mathlib.Core.Bool.{Bool, true, false}
use Prim.Native.Nat.{ℕ, ◌≤◌}
use native.Mathlib.Omega.{arith}
use lib.ListN.{length, length-append, length-map}
use Rattle.format.specs.Tests.{keep_if, only}
use Rattle.format.specs.Keys.{type_of, key_of, order}
use Rattle.format.specs.Rules.{rule, GLOBAL, INPUT, OUTPUT, span, within, listed_types, listed}
use Rattle.format.specs.Content.{Pair, Map, Content, pair_bytes, pairs_bytes, map_bytes, maps_bytes, bytes, field, counted, modifiable, outputs_rule}
use Rattle.format.specs.Reading.{limit, accepted, reading}
use Rattle.std.specs.declared.cmp.Ordering.TheVariants.{Less}
use Rattle.format.proofs.Numbers.{All}
use Rattle.format.proofs.Compact.{Spells}
use Rattle.claims_reading.specs.Fine.{Framed, Rises, RisesFile, Keeps, FineMap, FineFile}
use Rattle.claims_reading.proofs.Rises.{rises_from}
use Rattle.claims_reading.proofs.Files.{reading_of_lem, reading_is}
use Rattle.fields.proofs.Free.{rule_free}
use Rattle.claims_calls.specs.Newer.{Added, nil, keep, add, AddedMap, AddedMaps, nils, maps, AddedFile, strike, strike_map, struck, asks, Alike}
use Rattle.claims_calls.proofs.Strikes.{field_strike, global_strike, outputs_strike, alike_of, alike_struck}

all_map : {A : Type 0} (P Q : A → Type 0) (f : A → A) → ((x : A) → P x → Q (f x)) → (xs : List A) → All P xs → All Q (map f xs)
all_map P Q f h [] a = tt
all_map P Q f h (x ∷ xs) a = (h x a.0, all_map P Q f h xs a.1)

-- striking keeps a content fine
all_keep : (P : Pair → Type 0) (t : Bool) (p : Pair) (ps : List Pair) → P p → All P ps → All P (keep_if t p ps)
all_keep P true p ps h a = (h, a)
all_keep P false p ps h a = a

all_strike : (P : Pair → Type 0) (k : ℕ) (ps : List Pair) → All P ps → All P (strike k ps)
unfolding strike only
all_strike P k [] a = tt
all_strike P k (p ∷ ps) a = all_keep P (listed k p.key) p (strike k ps) a.0 (all_strike P k ps a.1)

rises_keep : (last : List ℕ) (t : Bool) (p : Pair) (ps : List Pair) → order last p.key ≡ Less → Rises p.key ps → Rises last (keep_if t p ps)
rises_keep last true p ps o h = (o, h)
rises_keep last false p ps o h = rises_from last p.key ps o h

rises_strike : (k : ℕ) (last : List ℕ) (ps : List Pair) → Rises last ps → Rises last (strike k ps)
unfolding strike only
rises_strike k last [] h = tt
rises_strike k last (p ∷ ps) h = rises_keep last (listed k p.key) p (strike k ps) h.0 (rises_strike k p.key ps h.1)

map_down : (k : ℕ) (m : Map) → FineMap (rule k) m → FineMap (rule k) (strike_map k m)
unfolding strike_map
map_down k m h = record {
  pairs = record {
    framed = all_strike Framed k m.pairs h.pairs.framed;
    rises = rises_strike k [] m.pairs h.pairs.rises;
    keeps = all_strike (Keeps (rule k)) k m.pairs h.pairs.keeps;
  };
  end = h.end;
}

-- and makes it no longer
less_keep : (t : Bool) (p : Pair) (ps : List Pair) (q r : List ℕ)
    → length (pairs_bytes ps q) ≤ length r → length (pairs_bytes (keep_if t p ps) q) ≤ length (pair_bytes p r)
unfolding pairs_bytes pair_bytes
less_keep true p ps q r h = simp length-append (omega arith)
less_keep false p ps q r h = simp length-append (omega arith)

pairs_less : (k : ℕ) (ps : List Pair) (q r : List ℕ) → length q ≤ length r → length (pairs_bytes (strike k ps) q) ≤ length (pairs_bytes ps r)
unfolding strike only pairs_bytes
pairs_less k [] q r h = h
pairs_less k (p ∷ ps) q r h = less_keep (listed k p.key) p (strike k ps) q (pairs_bytes ps r) (pairs_less k ps q r h)

map_less : (k : ℕ) (m : Map) (q r : List ℕ) → length q ≤ length r → length (map_bytes (strike_map k m) q) ≤ length (map_bytes m r)
unfolding map_bytes strike_map
map_less k m q r h = pairs_less k m.pairs (m.end ++ q) (m.end ++ r) (simp length-append (omega arith))

maps_less : (k : ℕ) (ms : List Map) (q r : List ℕ) → length q ≤ length r → length (maps_bytes (map (strike_map k) ms) q) ≤ length (maps_bytes ms r)
unfolding maps_bytes
maps_less k [] q r h = h
maps_less k (m ∷ ms) q r h = map_less k m _ _ (maps_less k ms q r h)

bytes_less : (c : Content) → length (bytes (struck c)) ≤ length (bytes c)
unfolding bytes struck
bytes_less c =
    let h : length (map_bytes (strike_map GLOBAL c.global) (maps_bytes (map (strike_map INPUT) c.ins) (maps_bytes (map (strike_map OUTPUT) c.outs) [])))
    ≤ length (map_bytes c.global (maps_bytes c.ins (maps_bytes c.outs []))) =
    map_less GLOBAL c.global _ _ (maps_less INPUT c.ins _ _ (maps_less OUTPUT c.outs [] [] (omega arith))) in
    omega arith

-- what is asked of outputs goes by the listed pairs of both maps
late_strike : (c : Content) → outputs_rule (modifiable (field 0x06 (strike GLOBAL c.global.pairs))) (map (strike_map OUTPUT) c.outs)
    ≡ outputs_rule (modifiable (field 0x06 c.global.pairs)) c.outs
unfolding listed type_of key_of within listed_types span
late_strike c = rw (field_strike GLOBAL 0x06 c.global.pairs refl) (outputs_strike _ c.outs)

pub down : (c : Content) → FineFile c → FineFile (struck c)
unfolding struck strike_map listed type_of key_of within listed_types span
down c h = record {
  global = map_down GLOBAL c.global h.global;
  ins = all_map (FineMap (rule INPUT)) (FineMap (rule INPUT)) (strike_map INPUT) (map_down INPUT) c.ins h.ins;
  outs = all_map (FineMap (rule OUTPUT)) (FineMap (rule OUTPUT)) (strike_map OUTPUT) (map_down OUTPUT) c.outs h.outs;
  rule = global_strike c.global.pairs ∙ h.rule;
  ins# = length-map c.ins (strike_map INPUT) ∙ h.ins# ∙ sym (ap counted (field_strike GLOBAL 0x04 c.global.pairs refl));
  outs# = length-map c.outs (strike_map OUTPUT) ∙ h.outs# ∙ sym (ap counted (field_strike GLOBAL 0x05 c.global.pairs refl));
  late = late_strike c ∙ h.late;
  short = omega (arith, bytes_less c, h.short);
}

-- and what is framed and rises is fine if its listed pairs are
abbrev FramedMap : Map → Type 0
FramedMap m = All Framed m.pairs × Spells m.end 0

abbrev RisesMap : Map → Type 0
RisesMap m = Rises [] m.pairs

record FramedFile (c : Content) : Type 0 where
  pub global : FramedMap c.global
  pub ins : All FramedMap c.ins
  pub outs : All FramedMap c.outs

keeps_keep : (k : ℕ) (t : Bool) (p : Pair) (ps qs : List Pair) → listed k p.key ≡ t
    → (All (Keeps (rule k)) qs → All (Keeps (rule k)) ps) → All (Keeps (rule k)) (keep_if t p qs) → All (Keeps (rule k)) (p ∷ ps)
keeps_keep k true p ps qs e h a = (a.0, h a.1)
keeps_keep k false p ps qs e h a = (rule_free k p.key p.value e, h a)

keeps_up : (k : ℕ) (ps : List Pair) → All (Keeps (rule k)) (strike k ps) → All (Keeps (rule k)) ps
unfolding strike only
keeps_up k [] a = tt
keeps_up k (p ∷ ps) a = keeps_keep k (listed k p.key) p ps (strike k ps) refl (keeps_up k ps) a

map_up : (k : ℕ) (m : Map) → FineMap (rule k) (strike_map k m) → FramedMap m → RisesMap m → FineMap (rule k) m
unfolding strike_map
map_up k m h f r = record { pairs = record { framed = f.0; rises = r; keeps = keeps_up k m.pairs h.pairs.keeps }; end = f.1 }

maps_up : (k : ℕ) (ms : List Map) → All (FineMap (rule k)) (map (strike_map k) ms) → All FramedMap ms → All RisesMap ms → All (FineMap (rule k)) ms
maps_up k [] h f r = tt
maps_up k (m ∷ ms) h f r = (map_up k m h.0 f.0 r.0, maps_up k ms h.1 f.1 r.1)

up : (d : Content) → FineFile (struck d) → FramedFile d → RisesFile d → length (bytes d) ≤ limit → FineFile d
unfolding struck strike_map listed type_of key_of within listed_types span
up d h f r s = record {
  global = map_up GLOBAL d.global h.global f.global r.global;
  ins = maps_up INPUT d.ins h.ins f.ins r.ins;
  outs = maps_up OUTPUT d.outs h.outs f.outs r.outs;
  rule = sym (global_strike d.global.pairs) ∙ h.rule;
  ins# = sym (length-map d.ins (strike_map INPUT)) ∙ h.ins# ∙ ap counted (field_strike GLOBAL 0x04 d.global.pairs refl);
  outs# = sym (length-map d.outs (strike_map OUTPUT)) ∙ h.outs# ∙ ap counted (field_strike GLOBAL 0x05 d.global.pairs refl);
  late = sym (late_strike d) ∙ h.late;
  short = s;
}

-- answers through the listed pairs
alike_by : (x c d : Content) → Alike x c → Alike x d → Alike c d
alike_by x c d a b =
    alike_of c d (sym a.same_listed ∙ b.same_listed) (sym a.same_report ∙ b.same_report) (sym a.same_kinds ∙ b.same_kinds)
    (λ m key l ok n. let k = ap (λ (ks : List ℕ). asks m ks key) a.same_kinds ∙ l in sym (a.same_lookups m key k ok n) ∙ b.same_lookups m key k ok n)
    (λ m t l. let k = ap (λ (ks : List ℕ). asks m ks (key_of t [])) a.same_kinds ∙ l in sym (a.same_lists m t k) ∙ b.same_lists m t k)
    (sym a.same_ins ∙ b.same_ins) (sym a.same_outs ∙ b.same_outs)

-- two contents with the same listed pairs
core : (c d : Content) → struck c ≡ struck d → FineFile c → FramedFile d → RisesFile d → length (bytes d) ≤ limit → FineFile d × Alike c d
core c d e h f r s =
    (up d (subst FineFile e (down c h)) f r s, alike_by (struck d) c d (subst (λ (x : Content). Alike x c) e (alike_struck c)) (alike_struck d))

-- an addition has the same listed pairs
added_strike : (k : ℕ) (ps qs : List Pair) → Added k ps qs → strike k ps ≡ strike k qs
unfolding strike only
added_strike k ps qs nil = refl
added_strike k ps qs (keep p xs ys a) = ap (keep_if (listed k p.key) p) (added_strike k xs ys a)
added_strike k ps qs (add p xs ys f u a) = rw u (added_strike k xs ys a)

map_strike : (k : ℕ) (m n : Map) → AddedMap k m n → strike_map k m ≡ strike_map k n
unfolding strike_map
map_strike k m n a = λ i. record { pairs = added_strike k m.pairs n.pairs a.pairs i; end = a.end i }

maps_strike : (k : ℕ) (ms ns : List Map) → AddedMaps k ms ns → map (strike_map k) ms ≡ map (strike_map k) ns
maps_strike k ms ns nils = refl
maps_strike k ms ns (maps m n xs ys a b) = ap₂ {C = List Map} (λ x y. x ∷ y) (map_strike k m n a) (maps_strike k xs ys b)

file_strike : (c d : Content) → AddedFile c d → struck c ≡ struck d
unfolding struck
file_strike c d a = λ i. record {
  global = map_strike GLOBAL c.global d.global a.global i;
  ins = maps_strike INPUT c.ins d.ins a.ins i;
  outs = maps_strike OUTPUT c.outs d.outs a.outs i;
}

-- and is framed
added_framed : (k : ℕ) (ps qs : List Pair) → Added k ps qs → All Framed ps → All Framed qs
added_framed k ps qs nil h = tt
added_framed k ps qs (keep p xs ys a) h = (h.0, added_framed k xs ys a h.1)
added_framed k ps qs (add p xs ys f u a) h = (f, added_framed k xs ys a h)

map_framed : (k : ℕ) (m n : Map) → AddedMap k m n → FineMap (rule k) m → FramedMap n
map_framed k m n a h = (added_framed k m.pairs n.pairs a.pairs h.pairs.framed, subst (λ (e : List ℕ). Spells e 0) a.end h.end)

maps_framed : (k : ℕ) (ms ns : List Map) → AddedMaps k ms ns → All (FineMap (rule k)) ms → All FramedMap ns
maps_framed k ms ns nils h = tt
maps_framed k ms ns (maps m n xs ys a b) h = (map_framed k m n a h.0, maps_framed k xs ys b h.1)

file_framed : (c d : Content) → AddedFile c d → FineFile c → FramedFile d
file_framed c d a h = record {
  global = map_framed GLOBAL c.global d.global a.global h.global;
  ins = maps_framed INPUT c.ins d.ins a.ins h.ins;
  outs = maps_framed OUTPUT c.outs d.outs a.outs h.outs;
}

-- an accepted file with pairs of unlisted types added is accepted and answers alike
pub newer : (f : List ℕ) (c d : Content) → reading f ≡ accepted c → AddedFile c d → RisesFile d → length (bytes d) ≤ limit
    → (reading (bytes d) ≡ accepted d) × Alike c d
newer f c d e a r s =
    let h = (reading_is f c e).1 in
    let w = core c d (file_strike c d a) h (file_framed c d a h) r s in
    (reading_of_lem d w.0, w.1)

-- an accepted file with its pairs of unlisted types struck is accepted and answers alike
pub older : (f : List ℕ) (c : Content) → reading f ≡ accepted c → (reading (bytes (struck c)) ≡ accepted (struck c)) × Alike (struck c) c
older f c e = (reading_of_lem (struck c) (down c (reading_is f c e).1), alike_struck c)

-- each accepted file is its listed pairs with the others added
added_keep : (k : ℕ) (t : Bool) (p : Pair) (ps qs : List Pair) → listed k p.key ≡ t → Framed p → Added k qs ps → Added k (keep_if t p qs) (p ∷ ps)
added_keep k true p ps qs e f a = keep p qs ps a
added_keep k false p ps qs e f a = add p qs ps f e a

added_back : (k : ℕ) (ps : List Pair) → All Framed ps → Added k (strike k ps) ps
unfolding strike only
added_back k [] f = nil
added_back k (p ∷ ps) f = added_keep k (listed k p.key) p ps (strike k ps) refl f.0 (added_back k ps f.1)

map_back : (k : ℕ) (m : Map) → FineMap (rule k) m → AddedMap k (strike_map k m) m
unfolding strike_map
map_back k m h = record { pairs = added_back k m.pairs h.pairs.framed; end = refl }

maps_back : (k : ℕ) (ms : List Map) → All (FineMap (rule k)) ms → AddedMaps k (map (strike_map k) ms) ms
maps_back k [] h = nils
maps_back k (m ∷ ms) h = maps (strike_map k m) m (map (strike_map k) ms) ms (map_back k m h.0) (maps_back k ms h.1)

pub back : (f : List ℕ) (c : Content) → reading f ≡ accepted c → AddedFile (struck c) c
unfolding struck
back f c e =
    let h = (reading_is f c e).1 in
    record { global = map_back GLOBAL c.global h.global; ins = maps_back INPUT c.ins h.ins; outs = maps_back OUTPUT c.outs h.outs }
