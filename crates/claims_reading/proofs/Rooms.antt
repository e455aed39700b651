-- With room for all its pairs and maps a file's parse answers its verdict, and never that a table is full.
use mathlib.Core.Path.{◌≡◌, refl, sym, ◌∙◌, ap, ap₂, subst}
use mathlib.Core.Bool.{true}
use mathlib.Core.List.{List}
use Prim.Native.Nat.{ℕ, zero, suc, ◌+◌, ◌-◌, ◌*◌, ◌≤◌}
use native.Mathlib.Nat.{zero-add, add-zero}
use native.Mathlib.Omega.{arith}
use borrow.Author.Tests.{le-leb, leb-true}
use lib.Dec.{leb}
use lib.ListN.{length}
use Rattle.format.specs.Refusals.{number_of}
use Rattle.format.specs.Rules.{span, within}
use Rattle.format.specs.Content.{Content, psbt_of, magic}
use Rattle.format.specs.Reading.{Reading, done, refusal, begins, pair, ended, events, Verdict, accepted, refused, outcome, reading}
use Rattle.format.specs.Entries.{pair_words, map_words, has_room_def, put_pair, put_map, entry_of, width}
use Rattle.format.specs.Parse.{ParseOut, out, cut, parsed}
use Rattle.format.specs.declared.PsbtError.{PsbtError}
use Rattle.format.specs.declared.PsbtError.TheVariants.{PairsFull, MapsFull}
use Rattle.format.specs.declared.Psbt.{Psbt}
use Rattle.format.specs.declared.Parsed.TheVariants.{Accepted, Refused}
use Rattle.format.proofs.Entries.{length_put_pair, length_put_map}
use Rattle.format.proofs.Tests.{pick_by, never_true}
use Rattle.claims_reading.specs.Given.{given, of_file}
use Rattle.claims_reading.specs.Rooms.{pairs#, begun#, ended#, Roomy, answer, answer_of}
use Rattle.claims_reading.proofs.Orderly.{Set, OrderlyBy, Orderly, events_orderly}

pub has_room : (w n k : ℕ) (t : List ℕ) → (n + suc k) * w ≤ length t → has_room_def w n t ≡ true
unfolding has_room_def
has_room w n k t h = le-leb (n * w + w) (length t) (omega arith)

room_cut : (r : Reading) (o at p m i : ℕ) (P M : List ℕ) → Orderly o r → (p + pairs# r) * pair_words ≤ length P → (m + o + begun# r) * map_words ≤ length M
    → answer (cut at p m i P M r) ≡ answer_of (outcome r) (p + pairs# r) (m + ended# r)
unfolding cut answer answer_of outcome pairs# begun# ended#
room_cut (done c) o at p m i P M h a b = rw (add-zero p, add-zero m)
room_cut (refusal e) o at p m i P M h a b = rw (add-zero p, add-zero m)
room_cut (begins r) zero at p m i P M h a b =
    rw (has_room map_words m (begun# r) M (omega arith)) (room_cut r 1 at p m i P M h a (omega arith))
room_cut (begins r) (suc o) at p m i P M h a b = absurd h
room_cut (pair q r) o at p m i P M h a b =
    rw (has_room pair_words p (pairs# r) P a)
    (room_cut r o (at + width q) (p + 1) m i (put_pair P p (entry_of at q)) M h (rw length_put_pair (omega arith)) b
    ∙ ap (λ (n : ℕ). answer_of (outcome r) n (m + ended# r)) (omega arith))
room_cut (ended x r) zero at p m i P M h a b = absurd h
room_cut (ended x r) (suc o) at p m i P M h a b =
    room_cut r o (at + length x) p (m + 1) p P (put_map M m (record { first = i; count = p - i })) h a (rw length_put_map (omega arith))
    ∙ ap (λ (n : ℕ). answer_of (outcome r) (p + pairs# r) n) (omega arith)

pub room_answers : (f P M : List ℕ) → Roomy (events f) P M → answer (parsed f P M) ≡ answer_of (reading f) (pairs# (events f)) (ended# (events f))
unfolding parsed reading
room_answers f P M h =
    room_cut (events f) 0 (length magic) 0 0 0 P M (events_orderly f) (omega (arith, h.pairs)) (omega (arith, h.maps)) ∙ simp zero-add

-- where the reading is accepted, all maps that begin end
all_end : (r : Reading) (o : ℕ) (c : Content) → Orderly o r → outcome r ≡ accepted c → ended# r ≡ o + begun# r
unfolding outcome begun# ended#
all_end (done d) o c h e = omega arith
all_end (refusal x) o c h e = let z : ◌≡◌ {A = ℕ} 0 1 = cc in absurd (omega arith)
all_end (begins r) zero c h e = omega (arith, all_end r 1 c h e)
all_end (begins r) (suc o) c h e = absurd h
all_end (pair q r) o c h e = all_end r o c h e
all_end (ended a r) zero c h e = absurd h
all_end (ended a r) (suc o) c h e = omega (arith, all_end r o c h e)

pub room_accepts : (f P M : List ℕ) (c : Content) → reading f ≡ accepted c → Roomy (events f) P M
    → answer (parsed f P M) ≡ Accepted (psbt_of c.global.pairs) (pairs# (events f)) (begun# (events f))
unfolding reading answer_of
room_accepts f P M c e h =
    room_answers f P M h
    ∙ ap₂ (λ (v : Verdict) (n : ℕ). answer_of v (pairs# (events f)) n) e (all_end (events f) 0 c (events_orderly f) e ∙ zero-add _)

pub room_refuses : (f P M : List ℕ) (e : PsbtError) → reading f ≡ refused e → Roomy (events f) P M
    → answer (parsed f P M) ≡ Refused e (pairs# (events f)) (ended# (events f))
unfolding answer_of
room_refuses f P M e q h = room_answers f P M h ∙ ap (λ (v : Verdict). answer_of v (pairs# (events f)) (ended# (events f))) q

-- what a reading refuses is one of its set
pub refused_of : (Q : Set) (r : Reading) (o : ℕ) (e : PsbtError) → OrderlyBy Q o r → outcome r ≡ refused e → Q e
unfolding outcome
refused_of Q (done d) o e h q = let z : ◌≡◌ {A = ℕ} 0 1 = cc in absurd (omega arith)
refused_of Q (refusal x) o e h q = let y : x ≡ e = cc in subst Q y h
refused_of Q (begins r) zero e h q = refused_of Q r 1 e h q
refused_of Q (begins r) (suc o) e h q = absurd h
refused_of Q (pair p r) o e h q = refused_of Q r o e h q
refused_of Q (ended a r) zero e h q = absurd h
refused_of Q (ended a r) (suc o) e h q = refused_of Q r o e h q

-- so it is a file's fault
pub reading_gives : (f : List ℕ) (e : PsbtError) → reading f ≡ refused e → of_file e ≡ true
unfolding reading
reading_gives f e q = refused_of (λ x. of_file x ≡ true) (events f) 0 e (events_orderly f) q

pub never_full : (f P M : List ℕ) (e : PsbtError) (p m : ℕ)
    → Roomy (events f) P M → answer (parsed f P M) ≡ Refused e p m → (e ≡ PairsFull → ⊥) × (e ≡ MapsFull → ⊥)
unfolding answer_of of_file given within span number_of
never_full f P M e p m h q =
    let g : of_file e ≡ true = by (reading f) refl (sym (room_answers f P M h) ∙ q) in
    ((λ y. never_true (ap of_file (sym y) ∙ g)), (λ y. never_true (ap of_file (sym y) ∙ g)))
  where
    by : (v : Verdict) → reading f ≡ v → answer_of v (pairs# (events f)) (ended# (events f)) ≡ Refused e p m → of_file e ≡ true
    by (accepted c) r w = let z : ◌≡◌ {A = ℕ} 0 1 = cc in absurd (omega arith)
    by (refused x) r w = let y : x ≡ e = cc in rw y at (reading_gives f x r)

-- a parse is accepted only with room for all
abbrev Took : ℕ → ℕ → List ℕ → List ℕ → ParseOut → Type 0
Took n k P M x = (s : Psbt) (p m : ℕ) (P' M' : List ℕ) → x ≡ out (Accepted s p m) P' M' → (n * pair_words ≤ length P) × (k * map_words ≤ length M)

room_cut_took : (r : Reading) (o at p m i : ℕ) (P M : List ℕ) → Orderly o r → p * pair_words ≤ length P → (m + o) * map_words ≤ length M
    → Took (p + pairs# r) (m + o + begun# r) P M (cut at p m i P M r)
unfolding cut pairs# begun# has_room_def
room_cut_took (done c) o at p m i P M h a b = λ s p' m' P' M' q. (omega arith, omega arith)
room_cut_took (refusal e) o at p m i P M h a b = λ s p' m' P' M' q. let z : ◌≡◌ {A = ℕ} 0 1 = cc in absurd (omega arith)
room_cut_took (begins r) zero at p m i P M h a b =
    pick_by (Took (p + pairs# r) (m + 0 + suc (begun# r)) P M) (leb (m * map_words + map_words) (length M)) _ _
    (λ t s p' m' P' M' q.
    let l : m * map_words + map_words ≤ length M = leb-true _ _ t in
    let w = room_cut_took r 1 at p m i P M h a (omega arith) s p' m' P' M' q in
    (w.0, omega (arith, w.1)))
    (λ t s p' m' P' M' q. let z : ◌≡◌ {A = ℕ} 0 1 = cc in absurd (omega arith))
room_cut_took (begins r) (suc o) at p m i P M h a b = absurd h
room_cut_took (pair x r) o at p m i P M h a b =
    pick_by (Took (p + suc (pairs# r)) (m + o + begun# r) P M) (leb (p * pair_words + pair_words) (length P)) _ _
    (λ t s p' m' P' M' q.
    let l : p * pair_words + pair_words ≤ length P = leb-true _ _ t in
    let e : length (put_pair P p (entry_of at x)) ≡ length P = length_put_pair P p (entry_of at x) in
    let w = room_cut_took r o (at + width x) (p + 1) m i (put_pair P p (entry_of at x)) M h (omega arith) b s p' m' P' M' q in
    (omega (arith, w.0), w.1))
    (λ t s p' m' P' M' q. let z : ◌≡◌ {A = ℕ} 0 1 = cc in absurd (omega arith))
room_cut_took (ended x r) zero at p m i P M h a b = absurd h
room_cut_took (ended x r) (suc o) at p m i P M h a b = λ s p' m' P' M' q.
    let e : length (put_map M m (record { first = i; count = p - i })) ≡ length M = length_put_map M m (record { first = i; count = p - i }) in
    let w = room_cut_took r o (at + length x) p (m + 1) p P (put_map M m (record { first = i; count = p - i })) h a (omega arith) s p' m' P' M' q in
    (w.0, omega (arith, w.1))

pub accepted_roomy : (f P M : List ℕ) (s : Psbt) (p m : ℕ) (P' M' : List ℕ) → parsed f P M ≡ out (Accepted s p m) P' M' → Roomy (events f) P M
unfolding parsed
accepted_roomy f P M s p m P' M' q =
    let w = room_cut_took (events f) 0 (length magic) 0 0 0 P M (events_orderly f) (omega arith) (omega arith) s p m P' M' q in
    record { pairs = omega (arith, w.0); maps = omega (arith, w.1) }
