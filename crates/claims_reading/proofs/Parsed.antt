-- An accepted file, parsed into tables with room enough, is reported whole and leaves its entries in them.
use mathlib.Core.Path.{◌≡◌, refl, sym, ◌∙◌, ap, ap₂}
use mathlib.Core.List.{List, [], ◌∷◌, ◌++◌, append_assoc}
use Prim.Native.Nat.{ℕ, suc, ◌+◌, ◌*◌, ◌≤◌}
use native.Mathlib.Nat.{add-sub_cancel_left, zero-add}
use native.Mathlib.Omega.{arith}
use lib.ListN.{length, set, length-append}
use lib.Seq.{sets, length-sets, sets-eq}
use Rattle.format.specs.Content.{Pair, Map, Content, maps_of, magic, psbt_of}
use Rattle.format.specs.Reading.{Reading, done, ended, pair_events, events, Verdict, accepted, refused, reading}
use Rattle.format.specs.Entries.{pair_words, map_words, pair_entry_words, map_entry_words, put_pair, put_map, entry_of, width}
use Rattle.format.specs.Parse.{out, cut, parsed}
use Rattle.format.specs.declared.Psbt.{Psbt}
use Rattle.format.specs.declared.PairEntry.{PairEntry}
use Rattle.format.specs.declared.MapEntry.{MapEntry}
use Rattle.format.specs.declared.Parsed.TheVariants.{Accepted}
use Rattle.claims_reading.specs.Rooms.{pairs#, begun#, Roomy, answer}
use Rattle.claims_reading.specs.Shown.{behind, behind_map, entries, maps_entries, runs, pairs_in, joined, onto, pair_table, map_table, Room, Accepts}
use Rattle.claims_reading.proofs.Files.{maps_trace, accepted_events}
use Rattle.claims_reading.proofs.Rooms.{has_room, room_refuses, accepted_roomy}

-- words written behind words are written together
sets_append : (l xs ys : List ℕ) (i : ℕ) → sets (sets l i xs) (i + length xs) ys ≡ sets l i (xs ++ ys)
sets_append l [] ys i = ap (λ (n : ℕ). sets l n ys) (omega arith)
sets_append l (x ∷ xs) ys i = ap (λ (n : ℕ). sets (sets (set l i x) (suc i) xs) n ys) (omega arith) ∙ sets_append (set l i x) xs ys (suc i)

-- entries of w words each
module _ {A : Type 0} (f : A → List ℕ) (w : ℕ) (wide : (x : A) → length (f x) ≡ w) where
  pub length_joined : (xs : List A) → length (joined f xs) ≡ length xs * w
  unfolding joined
  length_joined [] = omega arith
  length_joined (x ∷ xs) = rw (length-append, wide x, length_joined xs) (omega arith)

  joined_append : (xs ys : List A) → joined f (xs ++ ys) ≡ joined f xs ++ joined f ys
  unfolding joined
  joined_append [] ys = refl
  joined_append (x ∷ xs) ys = ap (λ (r : List ℕ). f x ++ r) (joined_append xs ys) ∙ sym (append_assoc (f x) (joined f xs) (joined f ys))

  sets_joined : (t : List ℕ) (n k : ℕ) (xs ys : List A)
      → length xs ≡ k → sets (sets t (n * w) (joined f xs)) ((n + k) * w) (joined f ys) ≡ sets t (n * w) (joined f (xs ++ ys))
  sets_joined t n k xs ys l =
      let e : (n + k) * w ≡ n * w + length (joined f xs) = rw (length_joined xs, l) (omega arith) in
      ap (λ (i : ℕ). sets (sets t (n * w) (joined f xs)) i (joined f ys)) e
      ∙ sets_append t (joined f xs) (joined f ys) (n * w)
      ∙ ap (sets t (n * w)) (sym (joined_append xs ys))

  pub onto_is : (t : List ℕ) (xs : List A) → length xs * w ≤ length t → sets t 0 (joined f xs) ≡ onto t (joined f xs)
  unfolding onto
  onto_is t xs h = sets-eq (joined f xs) t 0 (rw (length_joined xs) (omega arith)) ∙ rw zero-add

pub pair_wide : (e : PairEntry) → length (pair_entry_words e) ≡ pair_words
unfolding pair_entry_words
pair_wide e = refl

pub map_wide : (e : MapEntry) → length (map_entry_words e) ≡ map_words
unfolding map_entry_words
map_wide e = refl

-- how many entries there are
pub length_entries : (at : ℕ) (ps : List Pair) → length (entries at ps) ≡ length ps
unfolding entries
length_entries at [] = refl
length_entries at (p ∷ ps) = ap suc (length_entries (at + width p) ps)

length_maps_entries : (at : ℕ) (ms : List Map) → length (maps_entries at ms) ≡ pairs_in ms
unfolding maps_entries pairs_in
length_maps_entries at [] = refl
length_maps_entries at (m ∷ ms) = rw (length-append, length_entries, length_maps_entries (behind_map at m) ms)

length_runs : (p : ℕ) (ms : List Map) → length (runs p ms) ≡ length ms
unfolding runs
length_runs p [] = refl
length_runs p (m ∷ ms) = ap suc (length_runs (p + length m.pairs) ms)

-- the cut, with room for what is written
pub cut_pairs : (ps : List Pair) (at p m i : ℕ) (P M : List ℕ) (t : Reading) → (p + length ps) * pair_words ≤ length P
    → cut at p m i P M (pair_events ps t) ≡ cut (behind at ps) (p + length ps) m i (sets P (p * pair_words) (joined pair_entry_words (entries at ps))) M t
unfolding cut pair_events behind entries joined put_pair pair_entry_words
cut_pairs [] at p m i P M t h = ap (λ (n : ℕ). cut at n m i P M t) (omega arith)
cut_pairs (q ∷ ps) at p m i P M t h =
    rw (has_room pair_words p (length ps) P h)
    (cut_pairs ps (at + width q) (p + 1) m i (put_pair P p (entry_of at q)) M t (rw length-sets (omega arith))
    ∙ ap₂ (λ (n : ℕ) (T : List ℕ). cut (behind (at + width q) ps) n m i T M t) (omega arith)
    (sets_joined pair_entry_words pair_words pair_wide P p 1 (entry_of at q ∷ []) (entries (at + width q) ps) refl))

out_same : (s : Psbt) (a a' b b' : ℕ) (P P' M M' : List ℕ) → a ≡ a' → b ≡ b' → P ≡ P' → M ≡ M' → out (Accepted s a b) P M ≡ out (Accepted s a' b') P' M'
out_same s a a' b b' P P' M M' e f g h = λ i. out (Accepted s (e i) (f i)) (g i) (h i)

cut_maps : (ms : List Map) (c : Content) (at p m : ℕ) (P M : List ℕ) → (p + pairs_in ms) * pair_words ≤ length P → (m + length ms) * map_words ≤ length M
    → cut at p m p P M (maps_trace ms (done c))
    ≡ out (Accepted (psbt_of c.global.pairs) (p + pairs_in ms) (m + length ms))
    (sets P (p * pair_words) (joined pair_entry_words (maps_entries at ms))) (sets M (m * map_words) (joined map_entry_words (runs p ms)))
unfolding cut maps_trace pairs_in maps_entries behind_map runs joined put_map map_entry_words
cut_maps [] c at p m P M h l = ap₂ (λ (x y : ℕ). out (Accepted (psbt_of c.global.pairs) x y) P M) (omega arith) (omega arith)
cut_maps (x ∷ ms) c at p m P M h l =
    rw (has_room map_words m (length ms) M l)
    (cut_pairs x.pairs at p m p P M (ended x.end (maps_trace ms (done c))) (omega arith)
    ∙ ap (λ (n : ℕ). cut (behind_map at x) (p + length x.pairs) (m + 1) (p + length x.pairs)
    (sets P (p * pair_words) (joined pair_entry_words (entries at x.pairs))) (put_map M m (record { first = p; count = n })) (maps_trace ms (done c)))
    (add-sub_cancel_left p (length x.pairs))
    ∙ cut_maps ms c (behind_map at x) (p + length x.pairs) (m + 1) (sets P (p * pair_words) (joined pair_entry_words (entries at x.pairs)))
    (put_map M m (record { first = p; count = length x.pairs }))
    (rw length-sets (omega arith)) (rw length-sets (omega arith))
    ∙ out_same _ _ _ _ _ _ _ _ _ (omega arith) (omega arith)
    (sets_joined pair_entry_words pair_words pair_wide P p
    (length x.pairs) (entries at x.pairs) (maps_entries (behind_map at x) ms) (length_entries at x.pairs))
    (sets_joined map_entry_words map_words map_wide M m 1 (record { first = p; count = length x.pairs } ∷ []) (runs (p + length x.pairs) ms) refl))

pub parse_is : (f : List ℕ) (c : Content) (P M : List ℕ) → reading f ≡ accepted c → Room c P M
    → parsed f P M ≡ out (Accepted (psbt_of c.global.pairs) (pairs_in (maps_of c)) (length (maps_of c))) (pair_table c P) (map_table c M)
unfolding parsed pair_table map_table
parse_is f c P M e w =
    ap (cut (length magic) 0 0 0 P M) (accepted_events f c e)
    ∙ cut_maps (maps_of c) c (length magic) 0 0 P M (omega (arith, w.pairs)) (omega (arith, w.maps))
    ∙ out_same _ _ _ _ _ _ _ _ _ (zero-add _) (zero-add _)
    (onto_is pair_entry_words pair_words pair_wide P (maps_entries (length magic) (maps_of c)) (rw length_maps_entries w.pairs))
    (onto_is map_entry_words map_words map_wide M (runs 0 (maps_of c)) (rw length_runs w.maps))

-- the room that a reading asks is the room that its content asks
pairs_pairs# : (ps : List Pair) (t : Reading) → pairs# (pair_events ps t) ≡ length ps + pairs# t
unfolding pairs# pair_events
pairs_pairs# [] t = omega arith
pairs_pairs# (p ∷ ps) t = omega (arith, pairs_pairs# ps t)

pairs_begun# : (ps : List Pair) (t : Reading) → begun# (pair_events ps t) ≡ begun# t
unfolding begun# pair_events
pairs_begun# [] t = refl
pairs_begun# (p ∷ ps) t = pairs_begun# ps t

trace_asks : (ms : List Map) (c : Content) → (pairs# (maps_trace ms (done c)) ≡ pairs_in ms) × (begun# (maps_trace ms (done c)) ≡ length ms)
unfolding maps_trace pairs# begun# pairs_in
trace_asks [] c = (refl, refl)
trace_asks (m ∷ ms) c =
    let i = trace_asks ms c in (
      pairs_pairs# m.pairs (ended m.end (maps_trace ms (done c))) ∙ ap (λ (n : ℕ). length m.pairs + n) i.0,
      ap suc (pairs_begun# m.pairs (ended m.end (maps_trace ms (done c))) ∙ i.1),
    )

room_of : (f : List ℕ) (c : Content) (P M : List ℕ) → reading f ≡ accepted c → Roomy (events f) P M → Room c P M
room_of f c P M e h =
    let t = accepted_events f c e in
    let a = trace_asks (maps_of c) c in
    record { pairs = rw (t, a.0) at h.pairs; maps = rw (t, a.1) at h.maps }

-- whatever the tables, a parse is accepted only of an accepted file, and reports and leaves that file's content
pub accepted_is : (f P M : List ℕ) (s : Psbt) (p m : ℕ) (P' M' : List ℕ) → parsed f P M ≡ out (Accepted s p m) P' M' → Accepts f P M s p m P' M'
unfolding answer
accepted_is f P M s p m P' M' q = by (reading f) refl
  where
    by : (v : Verdict) → reading f ≡ v → Accepts f P M s p m P' M'
    by (refused e) r =
        let a = room_refuses f P M e r (accepted_roomy f P M s p m P' M' q) in
        let b = ap answer q in
        let z : ◌≡◌ {A = ℕ} 0 1 = cc in
        absurd (omega arith)
    by (accepted c) r =
        let a = parse_is f c P M r (room_of f c P M r (accepted_roomy f P M s p m P' M' q)) in
        record { content = c; reads = r; reports = cc; pairs = cc; maps = cc; pairs_left = cc; maps_left = cc }
