-- Reading with what is known carried along gives what the definition's reading gives: the file's events, and at their end what is reported.
use Prim.Native.Nat.{ℕ, zero, suc, ◌+◌, ◌-◌, ◌<◌}
use mathlib.Core.Path.{◌≡◌, refl, sym, ◌∙◌, ap, subst}
use mathlib.Core.Bool.{Bool}
use mathlib.Core.List.{List, [], ◌∷◌}
use native.Mathlib.Omega.{arith}
use borrow.Author.Tests.{lt-ltb, le-ltb}
use lib.ListN.{length, length-append}
use Rattle.format.specs.Tests.{pick}
use Rattle.format.specs.Rules.{and_then, kind_of, rule, GLOBAL, INPUT, OUTPUT}
use Rattle.format.specs.Content.{Pair, Map, field, counted, psbt_of, global_rule, modifiable, output_rule, outputs_rule}
use Rattle.format.specs.Reading.{FieldRule, Item, stop, over, one, item, Mapped, ends, stops, front, turn, items, mapped}
use Rattle.format.specs.Reading.{Reading, pair_events, map_events, maps_events, unless, two, lastly, global_then}
use Rattle.format.specs.Reading as R
use Rattle.format.specs.Entries.{pair_words, map_words, has_room_def, put_pair, put_map, entry_of, width}
use Rattle.format.specs.Parse.{ParseOut, out, cut}
use Rattle.format.specs.declared.MapKind.{MapKind}
use Rattle.format.specs.declared.MapKind.TheVariants.{Global, Input, Output, Other}
use Rattle.format.specs.declared.PsbtError.TheVariants.{UnexpectedEof, PairsFull, MapsFull}
use Rattle.format.specs.Answers.{passed, Ruled}
use Rattle.std.specs.Prelude.{Ok, Err}
use Rattle.format.specs.declared.Psbt.{Psbt}
use Rattle.format.specs.declared.Parsed.TheVariants as A
use Rattle.format.proofs.Compact.{size_own}
use Rattle.format.proofs.Numbers.{All}
use Rattle.claims_reading.specs.Fine.{Rises, Keeps}
use Rattle.claims_reading.proofs.Items.{ItemIs, item_is}
use Rattle.claims_reading.proofs.Files.{pair_some}
use Rattle.known_so_far.specs.SoFar.{note_by, note, with_globals, with_seen, at_first, globals_rule, psbt_from, close_global, close_output, After}
use Rattle.known_so_far.specs.SoFar.{close_by, close, finish_by, finish, an_input, an_output, start, after_by, after}
use Rattle.psbt.specs.Leans.{Lean, done, refusal, begins, pair, ended, lean, cut_lean, left, go_on, walk_turn_def, go, walk}
use Rattle.known_so_far.specs.declared.Known.{Known}
use Rattle.known_so_far.specs.declared.Next.TheVariants.{Done, Map as More}
use Rattle.known_so_far.proofs.Notes.{note_all, found_globals, found_seen, global_noted, output_noted, input_noted}
use Rattle.known_so_far.proofs.Notes.{psbt_from_lem, global_rule_lem, seen_rule_lem, inputs_counted, outputs_counted}

pub cut_lean_lem : (at p m i : ℕ) (P M : List ℕ) (r : Reading) → cut at p m i P M r ≡ cut_lean at p m i P M (lean r)
unfolding cut cut_lean lean
cut_lean_lem at p m i P M (R.done c) = refl
cut_lean_lem at p m i P M (R.refusal e) = refl
cut_lean_lem at p m i P M (R.begins r) =
    ap (λ (o : ParseOut). pick (has_room_def map_words m M) o (out (A.Refused MapsFull p m) P M)) (cut_lean_lem at p m i P M r)
cut_lean_lem at p m i P M (R.pair q r) =
    ap (λ (o : ParseOut). pick (has_room_def pair_words p P) o (out (A.Refused PairsFull p m) P M))
    (cut_lean_lem (at + width q) (p + 1) m i (put_pair P p (entry_of at q)) M r)
cut_lean_lem at p m i P M (R.ended a r) = cut_lean_lem (at + length a) p (m + 1) p P (put_map M m (record { first = i; count = p - i })) r

-- an item takes a byte, so more turns than bytes are enough
abbrev Alike : List ℕ → (Known → List ℕ → List ℕ → Lean) → (Known → List ℕ → List ℕ → Lean) → Type 0
Alike s i j = (v : Known) (l t : List ℕ) → length t < length s → i v l t ≡ j v l t

go_on_same : (s r : List ℕ) (i j : Known → List ℕ → List ℕ → Lean) → Alike s i j → length r < length s → (x : After) → go_on i r x ≡ go_on j r x
unfolding go_on
go_on_same s r i j h l (Err e) = refl
go_on_same s r i j h l (Ok (Done y)) = refl
go_on_same s r i j h l (Ok (More w)) = ap begins (h w [] r l)

over_less : (ρ : FieldRule) (last s a r : List ℕ) → ItemIs ρ last s (over a r) → length r < length s
over_less ρ last s a r w =
    let o = size_own a 0 (length a) w.1 in
    let e : length a + length r ≡ length s = sym (length-append a r) ∙ ap length w.0 in
    omega (arith, o.0)

one_less : (ρ : FieldRule) (last s : List ℕ) (p : Pair) (r : List ℕ) → ItemIs ρ last s (one p r) → length r < length s
one_less ρ last s p r w = omega (arith, pair_some p r w.framed, ap length w.is)

turn_same : (w : Known) (ρ : FieldRule) (last s : List ℕ) (i j : Known → List ℕ → List ℕ → Lean)
    → Alike s i j → (o : Item) → ItemIs ρ last s o → walk_turn_def i w o ≡ walk_turn_def j w o
unfolding walk_turn_def
turn_same w ρ last s i j h (stop e) x = refl
turn_same w ρ last s i j h (over a r) x = ap (ended a) (go_on_same s r i j h (over_less ρ last s a r x) (after w (left r)))
turn_same w ρ last s i j h (one p r) x = ap (pair p) (h (note p.key p.value w) p.key r (one_less ρ last s p r x))

fuel : (f g : ℕ) (w : Known) (last s : List ℕ) → length s < f → length s < g → go f w last s ≡ go g w last s
unfolding go
fuel zero g w last s a b = absurd (omega arith)
fuel (suc f) zero w last s a b = absurd (omega arith)
fuel (suc f) (suc g) w last s a b =
    turn_same w (rule (kind_of w.kind)) last s (go f) (go g) (λ v l t h. fuel f g v l t (omega arith) (omega arith))
    (item (rule (kind_of w.kind)) last s) (item_is (rule (kind_of w.kind)) last s)

pub walk_turn : (w : Known) (last s : List ℕ) → walk w last s ≡ walk_turn_def walk w (item (rule (kind_of w.kind)) last s)
unfolding walk go
walk_turn w last s =
    turn_same w (rule (kind_of w.kind)) last s (go (length s)) walk
    (λ v l t h. fuel (length s) (suc (length t)) v l t h (omega arith)) (item (rule (kind_of w.kind)) last s) (item_is (rule (kind_of w.kind)) last s)

-- in a map: the definition's events are the walk's, if they are behind it
kind_note : (key v : List ℕ) (w : Known) → (note key v w).kind ≡ w.kind
unfolding note note_by with_globals with_seen
kind_note key v w = by w.kind
  where
    by : (k : MapKind) → (note_by k key v w).kind ≡ w.kind
    by Global = refl
    by Input = refl
    by Output = refl
    by Other = refl

abbrev Behind : (Map → List ℕ → Reading) → Known → List ℕ → List ℕ → Type 0
Behind j w last s = (ps : List Pair) (a r : List ℕ) → Rises last ps
    → All (Keeps (rule (kind_of w.kind))) ps → lean (j (record { pairs = ps; end = a }) r) ≡ go_on walk r (after (note_all w ps) (left r))

front_events : (j : Map → List ℕ → Reading) (p : Pair) (o : Mapped)
    → map_events j (front p o) ≡ R.pair p (map_events (λ m r. j (record { pairs = p ∷ m.pairs; end = m.end }) r) o)
unfolding map_events front pair_events
front_events j p (stops ps e) = refl
front_events j p (ends ps a r) = refl

in_map : (n : ℕ) (w : Known) (last s : List ℕ) (j : Map → List ℕ → Reading)
    → length s < n → Behind j w last s → lean (map_events j (items n (rule (kind_of w.kind)) last s)) ≡ walk w last s
unfolding items
in_map zero w last s j l h = absurd (omega arith)
in_map (suc n) w last s j l h =
    by (λ v t r i. in_map n v t r i) (item (rule (kind_of w.kind)) last s) (item_is (rule (kind_of w.kind)) last s) ∙ sym (walk_turn w last s)
  where
    by : ((v : Known) (t r : List ℕ) (i : Map → List ℕ → Reading)
        → length r < n → Behind i v t r → lean (map_events i (items n (rule (kind_of v.kind)) t r)) ≡ walk v t r)
        → (o : Item) → ItemIs (rule (kind_of w.kind)) last s o → lean (map_events j (turn (items n (rule (kind_of w.kind))) o)) ≡ walk_turn_def walk w o
    by more (stop e) x = unfold turn map_events pair_events lean walk_turn_def in refl
    by more (over a r) x = unfold turn map_events pair_events lean walk_turn_def note_all in ap (ended a) (h [] a r tt tt)
    by more (one p r) x =
        let m = one_less (rule (kind_of w.kind)) last s p r x in
        unfold turn walk_turn_def lean note_all in
        (ap lean (front_events j p (items n (rule (kind_of w.kind)) p.key r))
        ∙ ap (pair p) (ap (λ (k : MapKind). lean (map_events (λ m r. j (record { pairs = p ∷ m.pairs; end = m.end }) r) (items n (rule (kind_of k)) p.key r)))
        (sym (kind_note p.key p.value w))
        ∙ more (note p.key p.value w) p.key r (λ m r. j (record { pairs = p ∷ m.pairs; end = m.end }) r) (omega arith)
        (λ ps a q R K. h (p ∷ ps) a q (x.rises, R) (x.keeps, subst (λ (k : MapKind). All (Keeps (rule (kind_of k))) ps) (kind_note p.key p.value w) K))))

-- the end of a file: nothing left over, and then what the output rules say
unfoldable ends_by : Psbt → Ruled → List ℕ → Lean
ends_by s (Ok u) [] = done s
ends_by s (Err e) [] = refusal e
ends_by s y (x ∷ r) = refusal UnexpectedEof

and_passed : (y : Ruled) → and_then y passed ≡ y
unfolding and_then
and_passed (Ok u) = refl
and_passed (Err e) = refl

and_assoc : (x y z : Ruled) → and_then x (and_then y z) ≡ and_then (and_then x y) z
unfolding and_then
and_assoc (Ok u) y z = refl
and_assoc (Err e) y z = refl

finish_ends : (w : Known) (s : Psbt) (x : List ℕ) → psbt_from w.globals ≡ s → go_on walk x (finish w (left x)) ≡ ends_by s w.ruled x
unfolding go_on finish left
finish_ends w s x h = by w.ruled x
  where
    by : (y : Ruled) (x : List ℕ) → go_on walk x (pick (left x) (Err UnexpectedEof) (finish_by w y)) ≡ ends_by s y x
    by (Ok u) [] = unfold finish_by ends_by in ap done h
    by (Err e) [] = unfold finish_by ends_by in refl
    by (Ok u) (b ∷ r) = unfold ends_by in refl
    by (Err e) (b ∷ r) = unfold ends_by in refl

start_none : (w : Known) (b : Bool) → w.inputs ≡ 0 → w.outputs ≡ 0 → start w b ≡ finish w b
unfolding start
start_none w b i o = rw (le-ltb 0 w.inputs (omega arith), le-ltb 0 w.outputs (omega arith))

start_input : (w : Known) (b : Bool) (n : ℕ) → w.inputs ≡ suc n → start w b ≡ Ok (More (an_input w))
unfolding start
start_input w b n i = rw (lt-ltb 0 w.inputs (omega arith))

start_output : (w : Known) (b : Bool) (n : ℕ) → w.inputs ≡ 0 → w.outputs ≡ suc n → start w b ≡ Ok (More (an_output w))
unfolding start
start_output w b n i o = rw (le-ltb 0 w.inputs (omega arith), lt-ltb 0 w.outputs (omega arith))

after_output : (w : Known) (b : Bool) → w.kind ≡ Output → after w b ≡ start (close_output w) b
unfolding after close close_by after_by
after_output w b k = rw k

after_input : (w : Known) (b : Bool) → w.kind ≡ Input → after w b ≡ start w b
unfolding after close close_by after_by
after_input w b k = rw k

-- the outputs that are still to come, behind a global map with the pairs g
module _ (g : List Pair) where
  outputs_are : (n : ℕ) (w : Known) (s : List ℕ) (j : List Map → List ℕ → Reading) → w.inputs ≡ 0 → w.outputs ≡ n → w.globals ≡ found_globals g
      → ((os : List Map) (x : List ℕ) → lean (j os x) ≡ ends_by (psbt_of g) (and_then w.ruled (outputs_rule (modifiable (field 0x06 g)) os)) x)
      → lean (maps_events (rule OUTPUT) n s j) ≡ go_on walk s (start w (left s))
  unfolding maps_events outputs_rule lean go_on mapped an_output
  outputs_are zero w s j i o e h =
      h [] s ∙ ap (λ (y : Ruled). ends_by (psbt_of g) y s) (and_passed w.ruled)
      ∙ sym (ap (go_on walk s) (start_none w (left s) i o) ∙ finish_ends w (psbt_of g) s (ap psbt_from e ∙ psbt_from_lem g))
  outputs_are (suc n) w s j i o e h =
      ap begins (in_map (suc (length s)) (an_output w) [] s (λ m r. maps_events (rule OUTPUT) n r (λ ms q. j (m ∷ ms) q)) (omega arith)
      (λ ps a r R K. next ps a r R (λ v t k. outputs_are n v t k)))
      ∙ sym (ap (go_on walk s) (start_output w (left s) n i o))
    where
      next : (ps : List Pair) (a r : List ℕ) → Rises [] ps
          → ((v : Known) (t : List ℕ) (k : List Map → List ℕ → Reading) → v.inputs ≡ 0 → v.outputs ≡ n → v.globals ≡ found_globals g
          → ((os : List Map) (x : List ℕ) → lean (k os x) ≡ ends_by (psbt_of g) (and_then v.ruled (outputs_rule (modifiable (field 0x06 g)) os)) x)
          → lean (maps_events (rule OUTPUT) n t k) ≡ go_on walk t (start v (left t)))
          → lean (maps_events (rule OUTPUT) n r (λ ms q. j (record { pairs = ps; end = a } ∷ ms) q)) ≡ go_on walk r (after (note_all (an_output w) ps) (left r))
      next ps a r R more =
          let v : Known = with_seen (an_output w) (found_seen ps) in
          unfold an_output with_seen close_output in
          (more (close_output v) r (λ ms q. j (record { pairs = ps; end = a } ∷ ms) q) i (omega arith) e
          (λ os x. h (record { pairs = ps; end = a } ∷ os) x ∙ ap (λ (y : Ruled). ends_by (psbt_of g) y x)
          (and_assoc w.ruled (output_rule (modifiable (field 0x06 g)) ps) (outputs_rule (modifiable (field 0x06 g)) os)
          ∙ ap (λ (y : Ruled). and_then (and_then w.ruled y) (outputs_rule (modifiable (field 0x06 g)) os)) (sym (rw e (seen_rule_lem g ps)))))
          ∙ sym (ap (go_on walk r) (ap (λ (z : Known). after z (left r)) (output_noted (an_output w) ps refl refl R) ∙ after_output v (left r) refl)))

-- two walks that carry the same on where no input is left
pub record Same (w v : Known) : Type 0 where
  pub outputs : v.outputs ≡ w.outputs
  pub globals : v.globals ≡ w.globals
  pub ruled : v.ruled ≡ w.ruled

-- the inputs that are still to come
inputs_are : (n : ℕ) (w : Known) (s : List ℕ) (j : List Map → List ℕ → Reading) → w.inputs ≡ n
    → ((is : List Map) (x : List ℕ) (v : Known) → v.inputs ≡ 0 → Same w v → lean (j is x) ≡ go_on walk x (start v (left x)))
    → lean (maps_events (rule INPUT) n s j) ≡ go_on walk s (start w (left s))
unfolding maps_events lean go_on mapped an_input
inputs_are zero w s j i h = h [] s w i (record { outputs = refl; globals = refl; ruled = refl })
inputs_are (suc n) w s j i h =
    ap begins (in_map (suc (length s)) (an_input w) [] s (λ m r. maps_events (rule INPUT) n r (λ ms q. j (m ∷ ms) q)) (omega arith)
    (λ ps a r R K. inputs_are n (an_input w) r (λ ms q. j (record { pairs = ps; end = a } ∷ ms) q) (omega arith)
    (λ is x v z e. h (record { pairs = ps; end = a } ∷ is) x v z (record { outputs = e.outputs; globals = e.globals; ruled = e.ruled }))
    ∙ sym (ap (go_on walk r) (ap (λ (z : Known). after z (left r)) (input_noted (an_input w) ps refl) ∙ after_input (an_input w) (left r) refl))))
    ∙ sym (ap (go_on walk s) (start_input w (left s) n i))

lastly_ends : (g : Map) (is os : List Map) (x : List ℕ)
    → lean (lastly two g is os x) ≡ ends_by (psbt_of g.pairs) (outputs_rule (modifiable (field 0x06 g.pairs)) os) x
unfolding lastly lean
lastly_ends g is os (b ∷ x) = by (outputs_rule (modifiable (field 0x06 g.pairs)) os)
  where
    by : (y : Ruled) → refusal UnexpectedEof ≡ ends_by (psbt_of g.pairs) y (b ∷ x)
    by (Ok u) = unfold ends_by in refl
    by (Err e) = unfold ends_by in refl
lastly_ends g is os [] = by (outputs_rule (modifiable (field 0x06 g.pairs)) os)
  where
    by : (y : Ruled) → lean (unless y (R.done (record { global = g; ins = is; outs = os }))) ≡ ends_by (psbt_of g.pairs) y []
    by (Ok u) = unfold unless ends_by in refl
    by (Err e) = unfold unless ends_by in refl

-- behind the global map
after_global : (w : Known) (b : Bool) → w.kind ≡ Global → after w b ≡ after_by b (close_global w (globals_rule w.globals))
unfolding after close close_by
after_global w b k = rw k

global_are : (ps : List Pair) (a r : List ℕ) → Rises [] ps → All (Keeps (rule GLOBAL)) ps
    → lean (global_then two (record { pairs = ps; end = a }) r) ≡ go_on walk r (after (note_all at_first ps) (left r))
unfolding global_then and_then with_globals
global_are ps a r R K =
    by (global_rule ps) refl
    ∙ sym (ap (go_on walk r) (ap (λ (z : Known). after z (left r)) (global_noted at_first ps refl refl R K) ∙ after_global w (left r) refl))
  where
    w : Known
    w = with_globals at_first (found_globals ps)

    by : (y : Ruled) → global_rule ps ≡ y → lean (unless y (maps_events (rule INPUT) (counted (field 0x04 ps)) r
        (λ is q. maps_events (rule OUTPUT) (counted (field 0x05 ps)) q (λ os x. lastly two (record { pairs = ps; end = a }) is os x))))
        ≡ go_on walk r (after_by (left r) (close_global w (globals_rule (found_globals ps))))
    by (Err e) q = unfold unless lean go_on in rw (global_rule_lem ps, q) (unfold close_global after_by in refl)
    by (Ok u) q = unfold unless in rw (global_rule_lem ps, q) (unfold close_global after_by with_globals in
        inputs_are _ _ r _ (inputs_counted ps)
        (λ is x v z e. outputs_are ps _ v x _ z (e.outputs ∙ outputs_counted ps) e.globals
        (λ os y. lastly_ends (record { pairs = ps; end = a }) is os y
        ∙ ap (λ (u : Ruled). ends_by (psbt_of ps) (and_then u (outputs_rule (modifiable (field 0x06 ps)) os)) y) (sym e.ruled))))

-- a file's maps
pub maps_walked : (s : List ℕ) → lean (map_events (global_then two) (mapped (rule GLOBAL) s)) ≡ walk at_first [] s
unfolding mapped
maps_walked s = in_map (suc (length s)) at_first [] s (global_then two) (omega arith) global_are
