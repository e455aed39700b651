-- Every text fits the room that the program has for it.
use mathlib.Core.Path.{◌≡◌, refl}
use mathlib.Core.List.{List, []}
use Prim.Native.Nat.{ℕ, zero, suc, ◌+◌, ◌*◌, ◌≤◌}
use native.Mathlib.Omega.{arith}
use lib.Dec.{ltb}
use lib.ListN.{length, length-append}
use Rattle.format.specs.Entries.{map_words}
use Rattle.format.specs.Tables.{maps_reported, view}
use Rattle.format.specs.Parse.{ParseOut, out, parsed}
use Rattle.format.specs.Transaction.{unsigned_tx_def, lock_decided}
use Rattle.format.specs.declared.PsbtError.TheVariants.{TooLong}
use Rattle.format.specs.declared.Psbt.{Psbt}
use Rattle.format.specs.Answers.{Numbered}
use Rattle.format.specs.declared.Parsed.TheVariants.{Accepted, Refused}
use Rattle.format.proofs.Tests.{pick_by}
use Rattle.rooms.specs.Limits.{longest, most_maps}
use Rattle.rooms.specs.Rooms.{fresh}
use Rattle.rooms.proofs.Zeros.{zeros_long}
use Rattle.rooms.proofs.Taken.{reports_few}
use Rattle.reasons.proofs.Sizes.{refused_most}
use Rattle.stop_lines.specs.Stops.{stopped}
use Rattle.stop_lines.proofs.Sizes.{stop_most}
use Rattle.lock_lines.proofs.Sizes.{head_most, input_most, verdict_most}
use Rattle.heed_lines.specs.Heeds.{heed_of}
use Rattle.heed_lines.proofs.Sizes.{heed_most}
use Rattle.why_text.specs.Why.{height_asked, time_asked, inputs_text, answered, accepted_text, refused_text, parsed_text, why_in, why}

-- the inputs' lines
inputs_most : (h t : ℕ → Numbered) (i n : ℕ) → i + n ≤ 1000 → length (inputs_text h t i n) ≤ 115 * n
unfolding inputs_text
inputs_most h t i zero l = omega arith
inputs_most h t i (suc n) l = simp length-append (omega (arith, input_most i (h i) (t i) (omega arith), inputs_most h t (i + 1) n (omega arith)))

-- the text of a file, with room for so many maps
accepted_most : (f P M : List ℕ) (s : Psbt) (B : List ℕ) → maps_reported s ≤ most_maps → length (accepted_text f P M s B) ≤ 30720
unfolding accepted_text maps_reported
accepted_most f P M s B h =
    let a = head_most s.inputs s.fallback_locktime in
    let b = inputs_most (height_asked f P M s) (time_asked f P M s) 0 s.inputs (omega arith) in
    let c = verdict_most (lock_decided (view f P M s) s) (answered (unsigned_tx_def (view f P M s) s fresh [] B)) in
    let d = heed_most (lock_decided (view f P M s) s) (heed_of f P M s) in
    simp length-append (omega (arith, a, b, c, d))

in_most : (P M B f : List ℕ) → length M ≤ most_maps * map_words → length (why_in P M B f) ≤ 30720
unfolding why_in parsed_text refused_text
in_most P M B f h = by (parsed f P M) refl
  where
    by : (o : ParseOut) → parsed f P M ≡ o → length (parsed_text B f o) ≤ 30720
    by (out (Refused e p m) P' M') q = simp length-append (omega (arith, refused_most e, stop_most (stopped f P' M' e p m)))
    by (out (Accepted s p m) P' M') q = accepted_most f P' M' s B (omega (arith, reports_few f P M s p m P' M' q))

-- so of every file
pub why_fits : (f : List ℕ) → length (why f) ≤ 30720
unfolding why
why_fits f =
    pick_by (λ (l : List ℕ). length l ≤ 30720) (ltb longest (length f)) _ _
    (λ h. omega (arith, refused_most TooLong))
    (λ h. in_most _ _ _ f (omega (arith, zeros_long (most_maps * map_words))))
