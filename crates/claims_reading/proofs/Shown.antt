-- The tables of an accepted file hold every map's entries, and these show what the content has.
use mathlib.Core.Path.{◌≡◌, refl, sym, ◌∙◌, ap, ap₂, subst, fun_ext}
use mathlib.Core.List.{List, [], ◌∷◌, ◌++◌, map, append_assoc, append-nil}
use mathlib.Core.Bool.{true, ◌&&◌}
use Prim.Native.Nat.{ℕ, zero, suc, ◌+◌, ◌-◌, ◌≤◌, ◌<◌}
use native.Mathlib.Omega.{arith}
use borrow.Author.Tests.{le-leb, lt-ltb, ltb-true, ltb-false}
use lib.Dec.{leb, ltb}
use lib.ListN.{length, take, drop, length-append, length-drop}
use lib.Seq.{take-append_seam, drop-append_seam, take_at, drop_at, drop-drop}
use Rattle.format.specs.Tests.{every}
use Rattle.format.specs.Keys.{below}
use Rattle.format.specs.Content.{Pair, Map, Content, maps_of, magic, pair_bytes, pairs_bytes, map_bytes, maps_bytes, bytes, psbt_of}
use Rattle.format.specs.Reading.{FieldRule, two, accepted, reading}
use Rattle.format.specs.Entries.{pair_entry_words, map_entry_words, pair_entries, map_entries, entry_of, width, key_in_def, value_in_def, shown}
use Rattle.format.specs.Tables.{in_file, fit, Held, no, holds, fitted, held_by_def, maps_reported, held, View, shows, view_of, view}
use Rattle.format.specs.declared.PsbtError.TheVariants.{OutOfRange}
use Rattle.format.specs.declared.Psbt.{Psbt}
use Rattle.format.specs.declared.PairEntry.{PairEntry}
use Rattle.format.specs.declared.MapEntry.{MapEntry}
use Rattle.format.proofs.Tests.{pick_by, and_left, and_right}
use Rattle.format.proofs.Numbers.{All}
use Rattle.format.proofs.Keys.{below_is}
use Rattle.claims_reading.specs.Fine.{Framed, Rises, FineMap, FineFile}
use Rattle.claims_reading.specs.Shown.{bare, view_by, behind, behind_map, entries, maps_entries, entries_by, runs, joined, onto, pair_table, map_table, Accepts}
use Rattle.claims_reading.proofs.Files.{reading_is, one_plus_counts}
use Rattle.claims_reading.proofs.Parsed.{length_entries}

-- a pair's entry names its key and its value
module _ (f : List ℕ) (at : ℕ) (p : Pair) (x : List ℕ) (here : drop at f ≡ pair_bytes p x) where
  key_here : key_in_def f (entry_of at p) ≡ p.key
  unfolding key_in_def entry_of pair_bytes
  key_here =
      rw (← drop-drop (length p.klen) at f, here, drop-append_seam p.klen (p.key ++ (p.vlen ++ (p.value ++ x))))
      (take-append_seam p.key (p.vlen ++ (p.value ++ x)))

  value_here : value_in_def f (entry_of at p) ≡ p.value
  unfolding value_in_def entry_of pair_bytes
  value_here =
      rw (
        ← drop-drop (length p.vlen) (at + length p.klen + length p.key) f,
        ← drop-drop (length p.key) (at + length p.klen) f,
        ← drop-drop (length p.klen) at f,
        here,
        drop-append_seam p.klen (p.key ++ (p.vlen ++ (p.value ++ x))),
        drop-append_seam p.key (p.vlen ++ (p.value ++ x)),
        drop-append_seam p.vlen (p.value ++ x),
      )
      (take-append_seam p.value x)

  rest_here : drop (at + width p) f ≡ x
  unfolding width pair_bytes
  rest_here =
      rw (
        ← drop-drop (length p.klen + length p.key + length p.vlen + length p.value) at f,
        here,
        ← drop-drop (length p.value) (length p.klen + length p.key + length p.vlen) (pair_bytes p x),
        ← drop-drop (length p.vlen) (length p.klen + length p.key) (pair_bytes p x),
        ← drop-drop (length p.key) (length p.klen) (pair_bytes p x),
        drop-append_seam p.klen (p.key ++ (p.vlen ++ (p.value ++ x))),
        drop-append_seam p.key (p.vlen ++ (p.value ++ x)),
        drop-append_seam p.vlen (p.value ++ x),
      )
      (drop-append_seam p.value x)

  shown_one : shown f (entry_of at p) ≡ bare p
  unfolding shown bare
  shown_one = rw (key_here, value_here)

  ends_here : 0 < length p.key → at + width p ≤ length f
  unfolding width pair_bytes
  ends_here h =
      let e : length f - at ≡ length (p.klen ++ (p.key ++ (p.vlen ++ (p.value ++ x)))) = sym (length-drop at f) ∙ ap length here in
      let g : length f - at ≡ length p.klen + (length p.key + (length p.vlen + (length p.value + length x))) = e ∙ simp length-append in
      omega arith

  in_file_lem : 0 < length p.key → in_file f (entry_of at p) ≡ true
  unfolding in_file entry_of width
  in_file_lem h =
      let l : at + width p ≤ length f = ends_here h in
      rw (le-leb _ _ (key_in l), le-leb _ _ (value_in l), lt-ltb 0 (length p.key) h)
    where
      key_in : at + width p ≤ length f → at + length p.klen + length p.key ≤ length f
      key_in l = omega arith

      value_in : at + width p ≤ length f → at + length p.klen + length p.key + length p.vlen + length p.value ≤ length f
      value_in l = omega arith

-- so a map's entries are fit, and show its pairs
rest_pairs : (f : List ℕ) (at : ℕ) (ps : List Pair) (x : List ℕ) → drop at f ≡ pairs_bytes ps x → drop (behind at ps) f ≡ x
unfolding behind pairs_bytes
rest_pairs f at [] x h = h
rest_pairs f at (p ∷ ps) x h = rest_pairs f (at + width p) ps x (rest_here f at p (pairs_bytes ps x) h)

rest_map : (f : List ℕ) (at : ℕ) (m : Map) (x : List ℕ) → drop at f ≡ map_bytes m x → drop (behind_map at m) f ≡ x
unfolding behind_map map_bytes
rest_map f at m x h = sym (drop-drop (length m.end) (behind at m.pairs) f)
    ∙ ap (drop (length m.end)) (rest_pairs f at m.pairs (m.end ++ x) h) ∙ drop-append_seam m.end x

shown_here : (f : List ℕ) (at : ℕ) (ps : List Pair) (x : List ℕ) → drop at f ≡ pairs_bytes ps x → map (shown f) (entries at ps) ≡ map bare ps
unfolding entries pairs_bytes
shown_here f at [] x h = refl
shown_here f at (p ∷ ps) x h =
    ap₂ (λ (y : Pair) (l : List Pair). y ∷ l) (shown_one f at p (pairs_bytes ps x) h) (shown_here f (at + width p) ps x (rest_here f at p (pairs_bytes ps x) h))

fit_here : (f last : List ℕ) (at : ℕ) (ps : List Pair) (x : List ℕ)
    → drop at f ≡ pairs_bytes ps x → All Framed ps → Rises last ps → fit f last (entries at ps) ≡ true
unfolding fit entries pairs_bytes below
fit_here f last at [] x h F R = refl
fit_here f last at (p ∷ ps) x h F R =
    rw (
      in_file_lem f at p (pairs_bytes ps x) h F.0.some,
      key_here f at p (pairs_bytes ps x) h,
      R.0,
      fit_here f p.key (at + width p) ps x (rest_here f at p (pairs_bytes ps x) h) F.1 R.1,
    )

-- the tables, by whole entries
pub pair_entries_lem : (es : List PairEntry) (t : List ℕ) → pair_entries (joined pair_entry_words es ++ t) ≡ es ++ pair_entries t
unfolding joined pair_entry_words pair_entries
pair_entries_lem [] t = refl
pair_entries_lem (e ∷ es) t = ap (λ (l : List PairEntry). e ∷ l) (pair_entries_lem es t)

pub map_entries_lem : (es : List MapEntry) (t : List ℕ) → map_entries (joined map_entry_words es ++ t) ≡ es ++ map_entries t
unfolding joined map_entry_words map_entries
map_entries_lem [] t = refl
map_entries_lem (e ∷ es) t = ap (λ (l : List MapEntry). e ∷ l) (map_entries_lem es t)

abbrev pub Good : Map → Type 0
Good m = All Framed m.pairs × Rises [] m.pairs

-- map by map: `at` and p are where the maps ms begin in the file and among the entries es
pub held_here : (f : List ℕ) (es : List PairEntry) (m : ℕ) (ms : List Map) (at p : ℕ) (r : List ℕ) (B : List PairEntry) (X : List MapEntry)
    → drop at f ≡ maps_bytes ms r → drop p es ≡ maps_entries at ms ++ B → p ≤ length es → All Good ms → m < length ms
    → held_by_def f es (drop m (runs p ms ++ X)) ≡ entries_by at m ms
unfolding maps_bytes map_bytes maps_entries runs held_by_def fitted entries_by
held_here f es m [] at p r B X F E l G h = absurd (omega arith)
held_here f es m (x ∷ ms) at p r B X F E l G h =
    by m h (λ n k. held_here f es n ms (behind_map at x) (p + length x.pairs) r B X (rest_map f at x (maps_bytes ms r) F)
    (sym (drop-drop (length x.pairs) p es) ∙ ap (drop (length x.pairs)) parts
    ∙ drop_at (entries at x.pairs) _ (length x.pairs) (length_entries at x.pairs))
    some G.1 k)
  where
    parts : drop p es ≡ entries at x.pairs ++ (maps_entries (behind_map at x) ms ++ B)
    parts = E ∙ append_assoc (entries at x.pairs) _ B

    some : p + length x.pairs ≤ length es
    some =
        let u : length es - p ≡ length (entries at x.pairs) + length (maps_entries (behind_map at x) ms ++ B) =
        sym (length-drop p es) ∙ ap length parts ∙ length-append (entries at x.pairs) (maps_entries (behind_map at x) ms ++ B) in
        omega (arith, length_entries at x.pairs)

    by : (m : ℕ) → m < length (x ∷ ms)
        → ((n : ℕ) → n < length ms → held_by_def f es (drop n (runs (p + length x.pairs) ms ++ X)) ≡ entries_by (behind_map at x) n ms)
        → held_by_def f es (drop m (runs p (x ∷ ms) ++ X)) ≡ entries_by at m (x ∷ ms)
    by zero h k =
        let t : take (length x.pairs) (drop p es) ≡ entries at x.pairs =
        ap (take (length x.pairs)) parts ∙ take_at (entries at x.pairs) _ (length x.pairs) (length_entries at x.pairs) in
        rw (le-leb (p + length x.pairs) (length es) some, t, fit_here f [] at x.pairs _ F G.0.0 G.0.1)
    by (suc m) h k = k m (omega arith)

past : (at m : ℕ) (ms : List Map) → length ms ≤ m → no OutOfRange ≡ entries_by at m ms
unfolding entries_by
past at m [] h = refl
past at zero (x ∷ ms) h = absurd (omega arith)
past at (suc m) (x ∷ ms) h = past (behind_map at x) m ms (omega arith)

maps_bytes_append : (ms ns : List Map) (r : List ℕ) → maps_bytes (ms ++ ns) r ≡ maps_bytes ms (maps_bytes ns r)
unfolding maps_bytes
maps_bytes_append [] ns r = refl
maps_bytes_append (m ∷ ms) ns r = ap (map_bytes m) (maps_bytes_append ms ns r)

file_here : (f : List ℕ) (c : Content) → bytes c ≡ f → drop (length magic) f ≡ maps_bytes (maps_of c) []
unfolding bytes maps_of maps_bytes
file_here f c e = ap (drop (length magic)) (sym e) ∙ ap (map_bytes c.global) (sym (maps_bytes_append c.ins c.outs []))

good_map : (ρ : FieldRule) (m : Map) → FineMap ρ m → Good m
good_map ρ m h = (h.pairs.framed, h.pairs.rises)

good_maps : (ρ : FieldRule) (ms ns : List Map) → All (FineMap ρ) ms → All Good ns → All Good (ms ++ ns)
good_maps ρ [] ns h g = g
good_maps ρ (m ∷ ms) ns h g = (good_map ρ m h.0, good_maps ρ ms ns h.1 g)

all_good : (c : Content) → FineFile c → All Good (maps_of c)
unfolding maps_of
all_good c h = (
  good_map two.global c.global h.global,
  good_maps two.input c.ins c.outs h.ins (subst (All Good) (append-nil c.outs) (good_maps two.output c.outs [] h.outs tt)),
)

pub view_here : (f : List ℕ) (m : ℕ) (ms : List Map) (at : ℕ) (r : List ℕ) → drop at f ≡ maps_bytes ms r → view_of f (entries_by at m ms) ≡ view_by m ms
unfolding view_of entries_by view_by maps_bytes map_bytes
view_here f m [] at r h = refl
view_here f zero (x ∷ ms) at r h = ap shows (shown_here f at x.pairs _ h)
view_here f (suc m) (x ∷ ms) at r h = view_here f m ms (behind_map at x) r (rest_map f at x (maps_bytes ms r) h)

-- whatever the tables, the entries that a map holds are fit: they lie in the file, and the keys that they show rise
abbrev HeldFit : List ℕ → Held → Type 0
HeldFit f (no e) = Unit {0}
HeldFit f (holds es) = fit f [] es ≡ true

by_fit : (f : List ℕ) (es : List PairEntry) (rs : List MapEntry) → HeldFit f (held_by_def f es rs)
unfolding held_by_def fitted
by_fit f es [] = tt
by_fit f es (r ∷ rs) =
    pick_by (HeldFit f) (leb (r.first + r.count) (length es)) _ _
    (λ q. pick_by (HeldFit f) (fit f [] (take r.count (drop r.first es))) _ _ (λ w. w) (λ w. tt)) (λ q. tt)

fit_shows : (f last : List ℕ) (es : List PairEntry) → fit f last es ≡ true → (every (in_file f) es ≡ true) × Rises last (map (shown f) es)
unfolding fit every shown
fit_shows f last [] h = (refl, tt)
fit_shows f last (e ∷ es) h =
    let a : (in_file f e && below last (key_in_def f e)) ≡ true = and_left (in_file f e && below last (key_in_def f e)) (fit f (key_in_def f e) es) h in
    let i = fit_shows f (key_in_def f e) es (and_right (in_file f e && below last (key_in_def f e)) (fit f (key_in_def f e) es) h) in (
      rw (and_left (in_file f e) (below last (key_in_def f e)) a) i.0,
      (below_is last (key_in_def f e) (and_right (in_file f e) (below last (key_in_def f e)) a), i.1),
    )

pub held_shows : (f P M : List ℕ) (s : Psbt) (m : ℕ) (es : List PairEntry)
    → held f P M s m ≡ holds es → (every (in_file f) es ≡ true) × Rises [] (map (shown f) es)
unfolding held
held_shows f P M s m es h =
    let w : HeldFit f (held f P M s m) =
    pick_by (HeldFit f) (ltb m (maps_reported s)) _ _ (λ q. by_fit f (pair_entries P) (drop m (map_entries M))) (λ q. tt) in
    fit_shows f [] es (subst (HeldFit f) h w)

-- every map of the tables holds its entries
module _ (f : List ℕ) (c : Content) (P M : List ℕ) (e : reading f ≡ accepted c) where
  pub held_is : (m : ℕ) → held f (pair_table c P) (map_table c M) (psbt_of c.global.pairs) m ≡ entries_by (length magic) m (maps_of c)
  unfolding held pair_table map_table onto
  held_is m =
      let i = reading_is f c e in
      rw (← one_plus_counts f c e)
      (pick_by (λ (x : Held). x ≡ entries_by (length magic) m (maps_of c)) (ltb m (length (maps_of c))) _ _
      (λ q. ap₂ (λ (es : List PairEntry) (rs : List MapEntry). held_by_def f es (drop m rs))
      (pair_entries_lem (maps_entries (length magic) (maps_of c)) _) (map_entries_lem (runs 0 (maps_of c)) _)
      ∙ held_here f _ m (maps_of c) (length magic) 0 [] _ _ (file_here f c i.0) refl (omega arith) (all_good c i.1) (ltb-true m _ q))
      (λ q. past (length magic) m (maps_of c) (ltb-false m _ q)))

  -- and shows what the content has
  pub view_is : (m : ℕ) → view f (pair_table c P) (map_table c M) (psbt_of c.global.pairs) m ≡ view_by m (maps_of c)
  unfolding view
  view_is m = ap (view_of f) (held_is m) ∙ view_here f m (maps_of c) (length magic) [] (file_here f c (reading_is f c e).0)

  -- so every call that is defined on what maps show, or hold, answers from the tables as from the content
  pub every_call : {A : Type 0} (call : (ℕ → View) → A)
      → call (λ m. view f (pair_table c P) (map_table c M) (psbt_of c.global.pairs) m) ≡ call (λ m. view_by m (maps_of c))
  every_call call = ap call (fun_ext (λ m. view_is m))

  pub every_lookup : {A : Type 0} (call : (ℕ → Held) → A)
      → call (λ m. held f (pair_table c P) (map_table c M) (psbt_of c.global.pairs) m) ≡ call (λ m. entries_by (length magic) m (maps_of c))
  every_lookup call = ap call (fun_ext (λ m. held_is m))

  -- the entries of each map lie in the file, and show the map's pairs and nothing else
  pub entries_show : (m : ℕ) (es : List PairEntry) → held f (pair_table c P) (map_table c M) (psbt_of c.global.pairs) m ≡ holds es
      → (every (in_file f) es ≡ true) × (view_by m (maps_of c) ≡ shows (map (shown f) es))
  unfolding view view_of
  entries_show m es h = ((held_shows f (pair_table c P) (map_table c M) (psbt_of c.global.pairs) m es h).0, sym (view_is m) ∙ ap (view_of f) h)

-- whatever the room, so do the tables that an accepted parse leaves
pub accepted_shows : (f P M : List ℕ) (s : Psbt) (p m : ℕ) (P' M' : List ℕ) (a : Accepts f P M s p m P' M')
    → (n : ℕ) → view f P' M' s n ≡ view_by n (maps_of a.content)
accepted_shows f P M s p m P' M' a n = rw (a.reports, a.pairs_left, a.maps_left) (view_is f a.content P M a.reads n)
