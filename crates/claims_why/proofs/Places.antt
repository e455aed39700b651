-- The text of a refused file is its refusal and the place where its reading stopped: the tables that its parse leaves tell that place.
use mathlib.Core.Path.{◌≡◌, refl, sym, ◌∙◌, ap, ap₂, subst}
use mathlib.Core.Bool.{true, false}
use mathlib.Core.List.{List, [], ◌++◌}
use Prim.Native.Nat.{ℕ, zero, suc, ◌+◌, ◌-◌, ◌*◌, ◌≤◌, ◌<◌}
use native.Mathlib.Omega.{arith}
use lib.ListN.{length, get_or, set, length-set}
use lib.Seq.{get_or-set_same, get_or-set_other}
use Rattle.format.specs.Tests.{pick}
use Rattle.format.specs.Refusals.{number_of}
use Rattle.format.specs.Keys.{key_of}
use Rattle.format.specs.Content.{magic, field, counted, global_rule}
use Rattle.format.specs.Reading.{Reading, done, refusal, begins, pair, ended, events, refused, reading}
use Rattle.format.specs.Entries.{pair_words, map_words, put_pair, put_map, entry_of, width}
use Rattle.format.specs.Tables.{View}
use Rattle.format.specs.Parse.{ParseOut, out, cut, parsed}
use Rattle.format.specs.declared.PsbtError.{PsbtError}
use Rattle.format.specs.declared.PsbtError.TheVariants.{InvalidMagic, MissingCounts, NotAllowed, TooLong}
use Rattle.format.specs.Answers.{Ruled}
use Rattle.std.specs.Prelude.{Ok, Err}
use Rattle.format.specs.declared.MapEntry.{MapEntry}
use Rattle.format.specs.declared.Parsed.TheVariants.{Accepted, Refused}
use Rattle.format.proofs.Tests.{pick_yes, pick_no}
use Rattle.format.proofs.Entries.{length_put_pair, length_put_map}
use Rattle.entries.specs.Words.{map_count, map_from}
use Rattle.entries.proofs.Tables.{map_count_lem, map_words_lem, map_put}
use Rattle.claims_reading.specs.Rooms.{Roomy, pairs#, begun#, ended#, answer}
use Rattle.claims_reading.specs.Found.{find_in}
use Rattle.claims_reading.specs.Stopped.{global_pairs, passing}
use Rattle.claims_reading.proofs.Orderly.{Set, RuledOf, Later, Early, Orderly, global_of, events_orderly}
use Rattle.claims_reading.proofs.Rooms.{has_room, room_refuses}
use Rattle.claims_reading.proofs.Found.{find_bare}
use Rattle.claims_reading.proofs.Stopped.{global_shown_lem, GlobalRefuses, refused_behind, refused_read, refused_unread}
use Rattle.reasons.specs.Reasons.{refused_line}
use Rattle.stop_lines.specs.Stops.{one_of, in_map_def, place_at, pairs_before, pairs_passed, global_shown, count_shown, stopped, stop_line}
use Rattle.stop_lines.specs.declared.Place.{Place}
use Rattle.stop_lines.specs.declared.Place.TheVariants.{GlobalEnd}
use Rattle.why_text.specs.Why.{refused_text, parsed_text, why_in}
use Rattle.claims_why.specs.Places.{end_by, map_in, read_in, place_in, refusal_text}

-- the entry of the map that ended last says how many pairs passed before the next
before_put : (M : List ℕ) (m : ℕ) (e : MapEntry) → m * map_words + map_words ≤ length M → pairs_before (put_map M m e) (m + 1) ≡ e.first + e.count
unfolding pairs_before map_from
before_put M m e h =
    let T : List ℕ = set (set M (m * 2) e.first) (m * 2 + 1) e.count in
    let l : length T ≡ length M = length-set (set M (m * 2) e.first) (m * 2 + 1) e.count ∙ length-set M (m * 2) e.first in
    let k : m < map_count T = omega (arith, map_count_lem T) in
    let a : get_or T (m * 2) 0 ≡ e.first =
    get_or-set_other (set M (m * 2) e.first) (m * 2 + 1) (m * 2) e.count 0 (λ q. omega arith) ∙ get_or-set_same M (m * 2) e.first 0 (omega arith) in
    let b : get_or T (m * 2 + 1) 0 ≡ e.count = get_or-set_same (set M (m * 2) e.first) (m * 2 + 1) e.count 0 (rw length-set (omega arith)) in
    let s : m + 1 ≡ suc m = omega arith in
    rw (← map_put M m e, s)
    (ap (λ (x : MapEntry). x.first + x.count) (sym (map_words_lem m T k)) ∙ ap₂ (λ (x y : ℕ). x + y) a b)

-- so the pairs that passed in the map being read are told by the tables
passed_by : ParseOut → ℕ
passed_by (out (Accepted s p m) P M) = pairs_passed M p m
passed_by (out (Refused e p m) P M) = pairs_passed M p m

passed_cut : (r : Reading) (o at p m i : ℕ) (P M : List ℕ) → Orderly o r → (p + pairs# r) * pair_words ≤ length P → (m + o + begun# r) * map_words ≤ length M
    → pairs_before M m ≡ i → i ≤ p → passed_by (cut at p m i P M r) ≡ passing (p - i) r
unfolding cut passed_by pairs_passed passing pairs# begun#
passed_cut (done c) o at p m i P M h a b e l = ap (λ (n : ℕ). p - n) e
passed_cut (refusal x) o at p m i P M h a b e l = ap (λ (n : ℕ). p - n) e
passed_cut (begins r) zero at p m i P M h a b e l = rw (has_room map_words m (begun# r) M (omega arith)) (passed_cut r 1 at p m i P M h a (omega arith) e l)
passed_cut (begins r) (suc o) at p m i P M h a b e l = absurd h
passed_cut (pair q r) o at p m i P M h a b e l =
    let n : p + 1 - i ≡ suc (p - i) = omega arith in
    rw (has_room pair_words p (pairs# r) P a)
    (passed_cut r o (at + width q) (p + 1) m i (put_pair P p (entry_of at q)) M h (rw length_put_pair (omega arith)) b e (omega arith)
    ∙ ap (λ (k : ℕ). passing k r) n)
passed_cut (ended x r) zero at p m i P M h a b e l = absurd h
passed_cut (ended x r) (suc o) at p m i P M h a b e l =
    let t : MapEntry = record { first = i; count = p - i } in
    let s : i + (p - i) ≡ p = omega arith in
    let z : p - p ≡ 0 = omega arith in
    passed_cut r o (at + length x) p (m + 1) p P (put_map M m t) h a (rw length_put_map (omega arith)) (before_put M m t (omega arith) ∙ s) (omega arith)
    ∙ ap (λ (k : ℕ). passing k r) z

-- what the global map's count field of type t says
abbrev count_in : List ℕ → ℕ → ℕ
count_in f t = counted (field t (global_pairs (events f)))

-- the counts are those of the global map, once that has ended
module _ (f P M P' M' : List ℕ) (e : PsbtError) (p m : ℕ) (q : parsed f P M ≡ out (Refused e p m) P' M') (room : Roomy (events f) P M) where
  count_told : (n t : ℕ) → ended# (events f) ≡ suc n → count_shown f P' M' t ≡ count_in f t
  unfolding count_shown global_shown find_in field
  count_told n t k =
      ap (λ (v : View). counted (find_in (key_of t []) v)) (global_shown_lem f P M P' M' (Refused e p m) n q room k)
      ∙ ap counted (find_bare (key_of t []) (global_pairs (events f)))

  pairs_told : pairs_passed M' p m ≡ passing 0 (events f)
  unfolding parsed passed_by pairs_before
  pairs_told =
      ap passed_by (sym q)
      ∙ passed_cut (events f) 0 (length magic) 0 0 0 P M (events_orderly f) (omega (arith, room.pairs)) (omega (arith, room.maps)) refl (omega arith)

  by_reading : m ≡ ended# (events f) → stopped f P' M' e p m ≡ place_at e (ended# (events f)) (passing 0 (events f)) (count_in f 0x04) (count_in f 0x05)
  unfolding stopped place_at in_map_def
  by_reading k = ap₂ (λ (n j : ℕ). place_at e n j (count_shown f P' M' 0x04) (count_shown f P' M' 0x05)) k pairs_told ∙ by (ended# (events f)) refl
    where
      by : (n : ℕ) → ended# (events f) ≡ n
          → place_at e n (passing 0 (events f)) (count_shown f P' M' 0x04) (count_shown f P' M' 0x05)
          ≡ place_at e n (passing 0 (events f)) (count_in f 0x04) (count_in f 0x05)
      by zero w = refl
      by (suc n) w = rw (count_told n 0x04 w, count_told n 0x05 w)

-- which refusals are given where nothing was read, and which elsewhere; which by the rule of the global map, and which behind it
abbrev Unread : Set
Unread x = one_of x InvalidMagic TooLong ≡ true

abbrev Begun : Set
Begun x = one_of x InvalidMagic TooLong ≡ false

abbrev AtEnd : Set
AtEnd x = one_of x MissingCounts NotAllowed ≡ true

abbrev PastEnd : Set
PastEnd x = one_of x MissingCounts NotAllowed ≡ false

begun : Early Begun
unfolding one_of number_of
begun =
    record {
      later = record { eof = refl; compact = refl; twice = refl; falls = refl; value = refl; script = refl; payment = refl };
      counts = refl;
      version = refl;
    }

past_end : Later PastEnd
unfolding one_of number_of
past_end = record { eof = refl; compact = refl; twice = refl; falls = refl; value = refl; script = refl; payment = refl }

-- so a refusal's number and the maps that ended tell what happened
at_end : (e : PsbtError) (x : Place) (y : Ruled) → GlobalRefuses PastEnd e y → RuledOf AtEnd y
    → pick (one_of e MissingCounts NotAllowed) GlobalEnd x ≡ end_by y x
unfolding end_by
at_end e x (Ok u) h g = pick_no _ _ _ h
at_end e x (Err z) h g = pick_yes _ _ _ (subst AtEnd h g)

module _ (f : List ℕ) (e : PsbtError) (q : reading f ≡ refused e) where
  in_map : (m : ℕ) → ended# (events f) ≡ m → in_map_def e m (passing 0 (events f)) (count_in f 0x04) (count_in f 0x05) ≡ map_in m (events f)
  unfolding in_map_def map_in one_of number_of
  in_map zero w = refl
  in_map (suc i) w =
      at_end e _ (global_rule (global_pairs (events f))) (refused_behind PastEnd past_end f e i w q) (global_of AtEnd refl refl (global_pairs (events f)))

  number_tells : place_at e (ended# (events f)) (passing 0 (events f)) (count_in f 0x04) (count_in f 0x05) ≡ place_in (events f)
  unfolding place_at place_in read_in one_of number_of
  number_tells = by (begun# (events f)) refl
    where
      by : (b : ℕ) → begun# (events f) ≡ b
          → place_at e (ended# (events f)) (passing 0 (events f)) (count_in f 0x04) (count_in f 0x05) ≡ read_in b (events f)
      by zero w = pick_yes _ _ _ (refused_unread Unread f e refl refl w q)
      by (suc b) w = pick_no _ _ _ (refused_read Begun f e begun b w q) ∙ in_map (ended# (events f)) refl

-- a refused file, with room for what is read before the refusal
pub why_refused : (f : List ℕ) (e : PsbtError) (P M B : List ℕ) → reading f ≡ refused e → Roomy (events f) P M → why_in P M B f ≡ refusal_text e f
unfolding why_in refusal_text parsed_text refused_text answer
why_refused f e P M B q room = by (parsed f P M) refl
  where
    by : (o : ParseOut) → parsed f P M ≡ o → parsed_text B f o ≡ refused_line e ++ stop_line (place_in (events f))
    by (out (Accepted s p m) P' M') w =
        let a : Accepted s p m ≡ Refused e (pairs# (events f)) (ended# (events f)) = ap answer (sym w) ∙ room_refuses f P M e q room in
        let z : ◌≡◌ {A = ℕ} 0 1 = cc in
        absurd (omega arith)
    by (out (Refused x p m) P' M') w =
        let a : Refused x p m ≡ Refused e (pairs# (events f)) (ended# (events f)) = ap answer (sym w) ∙ room_refuses f P M e q room in
        let y : x ≡ e = cc in
        let k : m ≡ ended# (events f) = cc in
        ap (λ (z : PsbtError). refused_line z ++ stop_line (stopped f P' M' z p m)) y
        ∙ ap (λ (l : Place). refused_line e ++ stop_line l)
        (by_reading f P M P' M' e p m (w ∙ ap (λ (z : PsbtError). out (Refused z p m) P' M') y) room k ∙ number_tells f e q)
