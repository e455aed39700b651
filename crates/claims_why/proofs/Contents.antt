-- The text of an accepted file is its content's: an input's line shows what the lock rule takes of that input, and the last line goes by the sequences
-- that the transaction takes.
use mathlib.Core.Path.{◌≡◌, refl, sym, ◌∙◌, ap, ap₂}
use mathlib.Core.List.{List, [], ◌∷◌, ◌++◌, map}
use Prim.Native.Nat.{ℕ, suc, ◌+◌, ◌<◌}
use native.Mathlib.Omega.{arith}
use borrow.Author.Tests.{lt-ltb}
use lib.Dec.{ltb}
use lib.ListN.{length}
use Rattle.format.specs.Content.{Map, Content, maps_of, psbt_of}
use Rattle.format.specs.Reading.{accepted, reading}
use Rattle.format.specs.Locks.{in_of}
use Rattle.format.specs.Tables.{held_input, view}
use Rattle.format.specs.Fields.{number_field, sequence, required_height_locktime, required_time_locktime}
use Rattle.format.specs.Transaction.{unsigned_tx_def, lock_decided}
use Rattle.format.specs.declared.Psbt.{Psbt}
use Rattle.format.specs.Answers.{Numbered}
use Rattle.format.proofs.Tests.{pick_yes}
use Rattle.claims_reading.specs.Shown.{view_by, pair_table, map_table, Room}
use Rattle.claims_reading.proofs.Files.{reading_is}
use Rattle.claims_reading.proofs.Parsed.{parse_is}
use Rattle.claims_reading.proofs.Shown.{view_is, every_call}
use Rattle.claims_calls.specs.Asked.{asks_for, seen_in}
use Rattle.claims_calls.specs.Newer.{ins_of}
use Rattle.claims_calls.proofs.Asked.{number_seen, seen_bare}
use Rattle.claims_calls.proofs.Views.{view_front}
use Rattle.lock_lines.specs.Lines.{head_line, verdict}
use Rattle.heed_lines.specs.declared.Heed.{Heed}
use Rattle.heed_lines.specs.Heeds.{heed_from, sequence_of, heed_of, heed_line}
use Rattle.rooms.specs.Rooms.{fresh}
use Rattle.why_text.specs.Why.{height_asked, time_asked, inputs_text, answered, accepted_text, parsed_text, why_in}
use Rattle.claims_why.specs.Contents.{ins_lines, ins_heed, content_lock, content_text}

-- maps that ask so, from number k on
lines_are : (h t : ℕ → Numbered) (k : ℕ) (ms : List Map)
    → ((j i : ℕ) → i ≡ k + j → j < length ms → (h i ≡ seen_in 0x12 (view_by j ms)) × (t i ≡ seen_in 0x11 (view_by j ms)))
    → inputs_text h t k (length ms) ≡ ins_lines k ms
unfolding inputs_text ins_lines view_by in_of
lines_are h t k [] w = refl
lines_are h t k (m ∷ ms) w =
    let b = w 0 k (omega arith) (omega arith) in
    let x : h k ≡ asks_for (in_of m.pairs).height = b.0 ∙ seen_bare 0x12 m.pairs in
    let y : t k ≡ asks_for (in_of m.pairs).time = b.1 ∙ seen_bare 0x11 m.pairs in
    rw (x, y, lines_are h t (k + 1) ms (λ j i e l. w (suc j) i (omega arith) (omega arith)))

-- inputs that have such sequences, from number k on
heeds_are : (q : ℕ → Numbered) (k : ℕ) (ms : List Map) → ((j i : ℕ) → i ≡ k + j → j < length ms → q i ≡ seen_in 0x10 (view_by j ms))
    → heed_from q k (length ms) ≡ ins_heed k (map (λ (m : Map). in_of m.pairs) ms)
unfolding heed_from ins_heed view_by in_of
heeds_are q k [] w = refl
heeds_are q k (m ∷ ms) w =
    let x : q k ≡ asks_for (in_of m.pairs).sequence = w 0 k (omega arith) (omega arith) ∙ seen_bare 0x10 m.pairs in
    rw (x, heeds_are q (k + 1) ms (λ j i e l. w (suc j) i (omega arith) (omega arith)))

module _ (f : List ℕ) (c : Content) (P M : List ℕ) (e : reading f ≡ accepted c) where
  -- what its parse reports, and the tables that it leaves
  abbrev s : Psbt
  s = psbt_of c.global.pairs

  abbrev P' : List ℕ
  P' = pair_table c P

  abbrev M' : List ℕ
  M' = map_table c M

  inputs_are : length c.ins ≡ s.inputs
  unfolding psbt_of
  inputs_are = (reading_is f c e).1.ins#

  input_seen : (t j : ℕ) → j < length c.ins → number_field t 4 f (held_input f P' M' s j) ≡ seen_in t (view_by j c.ins)
  unfolding held_input view maps_of view_by
  input_seen t j h =
      let q : j < s.inputs = omega (arith, inputs_are) in
      let z : 1 + j ≡ suc j = omega arith in
      ap (number_field t 4 f) (pick_yes (ltb j s.inputs) _ _ (lt-ltb j s.inputs q))
      ∙ number_seen f P' M' s (1 + j) t _ refl
      ∙ ap (seen_in t) (view_is f c P M e (1 + j) ∙ ap (λ (n : ℕ). view_by n (maps_of c)) z ∙ view_front j c.ins c.outs h)

  lines_seen : inputs_text (height_asked f P' M' s) (time_asked f P' M' s) 0 s.inputs ≡ ins_lines 0 c.ins
  unfolding height_asked time_asked required_height_locktime required_time_locktime
  lines_seen =
      ap (inputs_text (height_asked f P' M' s) (time_asked f P' M' s) 0) (sym inputs_are)
      ∙ lines_are _ _ 0 c.ins (λ j i q l. (let z : i ≡ j = omega arith in rw z (input_seen 0x12 j l, input_seen 0x11 j l)))

  heed_seen : heed_of f P' M' s ≡ ins_heed 0 (ins_of c)
  unfolding heed_of sequence_of sequence ins_of
  heed_seen =
      ap (heed_from (sequence_of f P' M' s) 0) (sym inputs_are)
      ∙ heeds_are _ 0 c.ins (λ j i q l. (let z : i ≡ j = omega arith in rw z (input_seen 0x10 j l)))

  -- whatever the rooms, as long as they hold the file's pairs and maps
  pub why_accepted : (B : List ℕ) → Room c P M → why_in P M B f ≡ content_text c B
  unfolding why_in parsed_text accepted_text content_lock content_text
  why_accepted B r =
      ap (parsed_text B f) (parse_is f c P M e r)
      ∙ every_call f c P M e
      (λ v. head_line s.inputs s.fallback_locktime ++ (inputs_text (height_asked f P' M' s) (time_asked f P' M' s) 0 s.inputs
      ++ (verdict (lock_decided v s) (answered (unsigned_tx_def v s fresh [] B)) ++ heed_line (lock_decided v s) (heed_of f P' M' s))))
      ∙ ap₂
      (λ (l : List ℕ) (h : Heed). head_line s.inputs s.fallback_locktime ++ (l
      ++ (verdict (content_lock c) (answered (unsigned_tx_def (λ n. view_by n (maps_of c)) s fresh [] B)) ++ heed_line (content_lock c) h)))
      lines_seen heed_seen
