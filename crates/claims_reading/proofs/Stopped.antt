-- The tables of a parse that stopped behind the global map show that map's pairs, whatever was written behind them; and which refusals are given
-- before the first map, in the maps, and behind the global map.
use mathlib.Core.Path.{◌≡◌, refl, sym, ◌∙◌, ap, subst}
use mathlib.Core.List.{List, [], ◌∷◌, ◌++◌, map, append-nil}
use Prim.Native.Nat.{ℕ, suc, ◌+◌, ◌-◌, ◌*◌, ◌≤◌}
use native.Mathlib.Nat.{zero-add}
use native.Mathlib.Omega.{arith}
use lib.Dec.{leb}
use lib.ListN.{length, take, drop, set, take-append-drop}
use lib.Seq.{sets, take_at, take-take, take-set-le}
use Rattle.format.specs.Keys.{same}
use Rattle.format.specs.Content.{Pair, Map, magic, map_bytes, maps_bytes, global_rule}
use Rattle.format.specs.Reading.{limit, Mapped, ends, stops, mapped, Reading, done, refusal, begins, pair, ended, pair_events, map_events}
use Rattle.format.specs.Reading.{unless, two, global_then, events_of, events, refused, outcome, reading}
use Rattle.format.specs.Entries.{pair_words, map_words, has_room_def, pair_entry_words, map_entry_words, put_pair, put_map, pair_entries, map_entries, entry_of}
use Rattle.format.specs.Entries.{width}
use Rattle.format.specs.Tables.{View, shows, held_by_def, view_of}
use Rattle.format.specs.Parse.{ParseOut, out, cut, parsed}
use Rattle.format.specs.declared.PsbtError.{PsbtError}
use Rattle.format.specs.declared.PsbtError.TheVariants.{InvalidMagic, TooLong}
use Rattle.format.specs.declared.PairEntry.{PairEntry}
use Rattle.format.specs.declared.MapEntry.{MapEntry}
use Rattle.format.specs.declared.Parsed.{Parsed}
use Rattle.format.specs.Answers.{Ruled}
use Rattle.std.specs.Prelude.{Ok, Err}
use Rattle.format.proofs.Tests.{pick_by}
use Rattle.claims_reading.specs.Rooms.{pairs#, begun#, ended#, Roomy}
use Rattle.claims_reading.specs.Shown.{bare, view_by, behind, entries, maps_entries, runs, joined, onto}
use Rattle.claims_reading.specs.Stopped.{global_pairs}
use Rattle.claims_reading.proofs.Files.{MappedIs, items_is, pairs_outcome}
use Rattle.claims_reading.proofs.Orderly.{Set, OrderlyBy, Later, Early, behind_orderly, read_orderly}
use Rattle.claims_reading.proofs.Rooms.{has_room, refused_of}
use Rattle.claims_reading.proofs.Parsed.{length_joined, onto_is, pair_wide, map_wide, length_entries, cut_pairs}
use Rattle.claims_reading.proofs.Shown.{pair_entries_lem, map_entries_lem, Good, held_here, view_here}

-- what is written behind n words leaves them
take_sets : (n i : ℕ) (t ws : List ℕ) → n ≤ i → take n (sets t i ws) ≡ take n t
take_sets n i t [] h = refl
take_sets n i t (w ∷ ws) h = take_sets n (suc i) (set t i w) ws (omega arith) ∙ take-set-le n t i w h

abbrev Keeps : ℕ → ℕ → List ℕ → List ℕ → ParseOut → Type 0
Keeps p m P M (out x P' M') = (take (p * pair_words) P' ≡ take (p * pair_words) P) × (take (m * map_words) M' ≡ take (m * map_words) M)

less : (n k : ℕ) (t u : List ℕ) → n ≤ k → take k t ≡ take k u → take n t ≡ take n u
less n k t u h e = sym (take-take n k t h) ∙ ap (take n) e ∙ take-take n k u h

pair_keeps : (p m : ℕ) (P M : List ℕ) (e : PairEntry) (x : ParseOut) → Keeps (p + 1) m (put_pair P p e) M x → Keeps p m P M x
unfolding put_pair
pair_keeps p m P M e (out x P' M') h = (
  less (p * pair_words) ((p + 1) * pair_words) P' _ (omega arith) h.0
      ∙ take_sets (p * pair_words) (p * pair_words) P (pair_entry_words e) (omega arith),
  h.1,
)

map_keeps : (p m : ℕ) (P M : List ℕ) (e : MapEntry) (x : ParseOut) → Keeps p (m + 1) P (put_map M m e) x → Keeps p m P M x
unfolding put_map
map_keeps p m P M e (out x P' M') h =
    (h.0, less (m * map_words) ((m + 1) * map_words) M' _ (omega arith) h.1 ∙ take_sets (m * map_words) (m * map_words) M (map_entry_words e) (omega arith))

-- so a parse leaves the entries that were written before
cut_keeps : (r : Reading) (at p m i : ℕ) (P M : List ℕ) → Keeps p m P M (cut at p m i P M r)
unfolding cut
cut_keeps (done c) at p m i P M = (refl, refl)
cut_keeps (refusal e) at p m i P M = (refl, refl)
cut_keeps (begins r) at p m i P M = pick_by (Keeps p m P M) (has_room_def map_words m M) _ _ (λ h. cut_keeps r at p m i P M) (λ h. (refl, refl))
cut_keeps (pair q r) at p m i P M =
    pick_by (Keeps p m P M) (has_room_def pair_words p P) _ _
    (λ h. let P₁ = put_pair P p (entry_of at q) in
    pair_keeps p m P M (entry_of at q) (cut (at + width q) (p + 1) m i P₁ M r) (cut_keeps r (at + width q) (p + 1) m i P₁ M))
    (λ h. (refl, refl))
cut_keeps (ended a r) at p m i P M =
    let e : MapEntry = record { first = i; count = p - i } in
    let M₁ = put_map M m e in
    map_keeps p m P M e (cut (at + length a) p (m + 1) p P M₁ r) (cut_keeps r (at + length a) p (m + 1) p P M₁)

-- pairs pass and no map ends
pairs_ended# : (ps : List Pair) (t : Reading) → ended# (pair_events ps t) ≡ ended# t
unfolding ended# pair_events
pairs_ended# [] t = refl
pairs_ended# (p ∷ ps) t = pairs_ended# ps t

pairs_passed# : (ps : List Pair) (t : Reading) → length ps ≤ pairs# (pair_events ps t)
unfolding pairs# pair_events
pairs_passed# [] t = omega arith
pairs_passed# (p ∷ ps) t = omega (arith, pairs_passed# ps t)

global_pairs_lem : (ps : List Pair) (a : List ℕ) (t : Reading) → global_pairs (pair_events ps (ended a t)) ≡ ps
unfolding global_pairs pair_events
global_pairs_lem [] a t = refl
global_pairs_lem (p ∷ ps) a t = ap (λ (l : List Pair). p ∷ l) (global_pairs_lem ps a t)

-- the view of the global map in tables
abbrev View0 : List ℕ → ParseOut → View
View0 f (out x P' M') = view_of f (held_by_def f (pair_entries P') (map_entries M'))

-- tables that begin with the entries of a map show it
module _ (f : List ℕ) (g : Map) (s P' M' : List ℕ) (here : drop (length magic) f ≡ map_bytes g s) (good : Good g)
    (P-is : take (length g.pairs * pair_words) P' ≡ joined pair_entry_words (entries (length magic) g.pairs))
    (M-is : take (1 * map_words) M' ≡ joined map_entry_words (runs 0 (g ∷ []))) where
  pairs_are : pair_entries P' ≡ entries (length magic) g.pairs ++ pair_entries (drop (length g.pairs * pair_words) P')
  pairs_are =
      ap pair_entries (sym (take-append-drop (length g.pairs * pair_words) P') ∙ ap (λ (l : List ℕ). l ++ drop (length g.pairs * pair_words) P') P-is)
      ∙ pair_entries_lem (entries (length magic) g.pairs) _

  maps_are : map_entries M' ≡ runs 0 (g ∷ []) ++ map_entries (drop (1 * map_words) M')
  maps_are =
      ap map_entries (sym (take-append-drop (1 * map_words) M') ∙ ap (λ (l : List ℕ). l ++ drop (1 * map_words) M') M-is)
      ∙ map_entries_lem (runs 0 (g ∷ [])) _

  view_global : view_of f (held_by_def f (pair_entries P') (map_entries M')) ≡ shows (map bare g.pairs)
  unfolding maps_bytes maps_entries view_by
  view_global =
      ap (λ (es : List MapEntry). view_of f (held_by_def f (pair_entries P') es)) maps_are
      ∙ ap (view_of f)
      (held_here f (pair_entries P') 0 (g ∷ []) (length magic) 0 s (pair_entries (drop (length g.pairs * pair_words) P'))
      (map_entries (drop (1 * map_words) M')) here (pairs_are ∙ rw append-nil) (omega arith) (good, tt) (omega arith))
      ∙ view_here f 0 (g ∷ []) (length magic) s here

-- so do those of a reading in which it ended, with room for its pairs
module _ (f : List ℕ) (g : Map) (s P M : List ℕ) (t : Reading) (here : drop (length magic) f ≡ map_bytes g s) (good : Good g)
    (pairs-in : length g.pairs * pair_words ≤ length P) (map-in : 1 * map_words ≤ length M) where
  abbrev written : List ℕ
  written = joined pair_entry_words (entries (length magic) g.pairs)

  abbrev entry : MapEntry
  entry = record { first = 0; count = 0 + length g.pairs - 0 }

  pairs_written : take ((0 + length g.pairs) * pair_words) (sets P (0 * pair_words) written) ≡ written
  unfolding onto
  pairs_written =
      let es = entries (length magic) g.pairs in
      let l : length es * pair_words ≤ length P = rw length_entries pairs-in in
      let k : length written ≡ (0 + length g.pairs) * pair_words = length_joined pair_entry_words pair_words pair_wide es ∙ rw (length_entries, zero-add) in
      ap (take ((0 + length g.pairs) * pair_words)) (onto_is pair_entry_words pair_words pair_wide P es l) ∙ take_at written (drop (length written) P) _ k

  map_written : take (1 * map_words) (put_map M 0 entry) ≡ joined map_entry_words (runs 0 (g ∷ []))
  unfolding onto put_map joined map_entry_words runs
  map_written =
      let n : 0 + length g.pairs - 0 ≡ length g.pairs = omega arith in
      ap (take (1 * map_words)) (onto_is map_entry_words map_words map_wide M (entry ∷ []) map-in) ∙ rw n

  left_by : (o : ParseOut) → Keeps (0 + length g.pairs) 1 (sets P (0 * pair_words) written) (put_map M 0 entry) o → View0 f o ≡ shows (map bare g.pairs)
  left_by (out x P' M') k =
      let z : 0 + length g.pairs ≡ length g.pairs = omega arith in
      view_global f g s P' M' here good (ap (λ (n : ℕ). take (n * pair_words) P') (sym z) ∙ k.0 ∙ pairs_written) (k.1 ∙ map_written)

  left_shows : View0 f (cut (length magic) 0 0 0 P M (begins (pair_events g.pairs (ended g.end t)))) ≡ shows (map bare g.pairs)
  unfolding cut
  left_shows =
      let next = behind (length magic) g.pairs + length g.end in
      let n = 0 + length g.pairs in
      let P₁ = sets P (0 * pair_words) written in
      let M₁ = put_map M 0 entry in
      rw (has_room map_words 0 0 M (omega arith))
      (ap (View0 f) (cut_pairs g.pairs (length magic) 0 0 0 P M (ended g.end t) (omega arith))
      ∙ left_by (cut next n 1 n P₁ M₁ t) (cut_keeps t next n 1 n P₁ M₁))

-- the global map of a reading in which a map ended
abbrev Shows : List ℕ → List ℕ → List ℕ → Reading → Type 0
Shows f P M r = (n : ℕ) → ended# r ≡ suc n → Roomy r P M → View0 f (cut (length magic) 0 0 0 P M r) ≡ shows (map bare (global_pairs r))

mapped_shows : (f P M : List ℕ) (o : Mapped) → MappedIs two.global [] (drop (length magic) f) o → Shows f P M (begins (map_events (global_then two) o))
unfolding map_events ended# global_pairs map_bytes pairs# begun#
mapped_shows f P M (stops ps e) h n q r = absurd (omega (arith, pairs_ended# ps (refusal e)))
mapped_shows f P M (ends ps a s) h n q r =
    let g : Map = record { pairs = ps; end = a } in
    let t = global_then two g s in
    let p = pairs_passed# ps (ended a t) in
    left_shows f g s P M t (sym h.0) (h.1.framed, h.1.rises) (omega (arith, r.pairs)) (omega (arith, r.maps))
    ∙ ap (λ (l : List Pair). shows (map bare l)) (sym (global_pairs_lem ps a t))

none_shows : (f P M : List ℕ) (e : PsbtError) → Shows f P M (refusal e)
unfolding ended#
none_shows f P M e n q r = absurd (omega arith)

events_show : (f P M : List ℕ) → Shows f P M (events f)
unfolding events events_of mapped
events_show f P M =
    pick_by (Shows f P M) (leb (length f) limit) _ _
    (λ l. pick_by (Shows f P M) (same (take 5 f) magic) _ _
    (λ t. mapped_shows f P M _ (items_is _ two.global [] (drop 5 f))) (λ t. none_shows f P M InvalidMagic))
    (λ l. none_shows f P M TooLong)

pub global_shown_lem : (f P M P' M' : List ℕ) (x : Parsed) (n : ℕ) → parsed f P M ≡ out x P' M' → Roomy (events f) P M → ended# (events f) ≡ suc n
    → view_of f (held_by_def f (pair_entries P') (map_entries M')) ≡ shows (map bare (global_pairs (events f)))
unfolding parsed
global_shown_lem f P M P' M' x n e r q = ap (View0 f) (sym e) ∙ events_show f P M n q r

-- a refusal behind the global map is that of its own rule; where that passes, it is one that is given later
abbrev pub GlobalRefuses : Set → PsbtError → Ruled → Type 0
GlobalRefuses Q e (Ok u) = Q e
GlobalRefuses Q e (Err x) = x ≡ e

module _ (Q : Set) (has : Later Q) (f : List ℕ) (e : PsbtError) where
  abbrev Behind : Reading → Type 0
  Behind r = (n : ℕ) → ended# r ≡ suc n → outcome r ≡ refused e → GlobalRefuses Q e (global_rule (global_pairs r))

  rule_refuses : (y : Ruled) (t : Reading) → OrderlyBy Q 0 t → outcome (unless y t) ≡ refused e → GlobalRefuses Q e y
  unfolding unless outcome
  rule_refuses (Ok u) t h q = refused_of Q t 0 e h q
  rule_refuses (Err x) t h q = cc

  mapped_behind : (o : Mapped) → Behind (begins (map_events (global_then two) o))
  unfolding map_events ended# global_pairs global_then outcome
  mapped_behind (stops ps x) n k q = absurd (omega (arith, pairs_ended# ps (refusal x)))
  mapped_behind (ends ps a s) n k q =
      let g : Map = record { pairs = ps; end = a } in
      rw (global_pairs_lem ps a (global_then two g s))
      (rule_refuses (global_rule ps) _ (behind_orderly Q has g s _ _) (sym (pairs_outcome ps (ended a (global_then two g s))) ∙ q))

  pub refused_behind : (n : ℕ) → ended# (events f) ≡ suc n → reading f ≡ refused e → GlobalRefuses Q e (global_rule (global_pairs (events f)))
  unfolding events events_of reading ended#
  refused_behind =
      pick_by Behind (leb (length f) limit) _ _
      (λ l. pick_by Behind (same (take 5 f) magic) _ _ (λ t. mapped_behind (mapped two.global (drop 5 f))) (λ t n k q. absurd (omega arith)))
      (λ l n k q. absurd (omega arith))

-- a refusal after a map began, and one before
module _ (Q : Set) (f : List ℕ) (e : PsbtError) where
  pub refused_read : Early Q → (n : ℕ) → begun# (events f) ≡ suc n → reading f ≡ refused e → Q e
  unfolding events events_of reading begun# outcome
  refused_read has =
      pick_by (λ r. (n : ℕ) → begun# r ≡ suc n → outcome r ≡ refused e → Q e) (leb (length f) limit) _ _
      (λ l. pick_by (λ r. (n : ℕ) → begun# r ≡ suc n → outcome r ≡ refused e → Q e) (same (take 5 f) magic) _ _
      (λ t n k q. refused_of Q (map_events (global_then two) (mapped two.global (drop 5 f))) 1 e (read_orderly Q has (drop 5 f)) q)
      (λ t n k q. absurd (omega arith)))
      (λ l n k q. absurd (omega arith))

  pub refused_unread : Q InvalidMagic → Q TooLong → begun# (events f) ≡ 0 → reading f ≡ refused e → Q e
  unfolding events events_of reading begun# outcome
  refused_unread a b =
      pick_by (λ r. begun# r ≡ 0 → outcome r ≡ refused e → Q e) (leb (length f) limit) _ _
      (λ l. pick_by (λ r. begun# r ≡ 0 → outcome r ≡ refused e → Q e) (same (take 5 f) magic) _ _
      (λ t k q. absurd (omega arith)) (λ t k q. let y : InvalidMagic ≡ e = cc in subst Q y a))
      (λ l k q. let y : TooLong ≡ e = cc in subst Q y b)
