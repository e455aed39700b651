-- What an accepted parse took of its tables.
use mathlib.Core.Path.{◌≡◌, sym, ◌∙◌, ap}
use mathlib.Core.List.{List}
use Prim.Native.Nat.{ℕ, ◌*◌, ◌≤◌}
use native.Mathlib.Omega.{arith}
use lib.ListN.{length}
use Rattle.format.specs.Content.{psbt_of}
use Rattle.format.specs.Reading.{events}
use Rattle.format.specs.Entries.{map_words}
use Rattle.format.specs.Tables.{maps_reported}
use Rattle.format.specs.Parse.{out, parsed}
use Rattle.format.specs.declared.Psbt.{Psbt}
use Rattle.format.specs.declared.Parsed.TheVariants.{Accepted}
use Rattle.claims_reading.specs.Shown.{Room, Accepts}
use Rattle.claims_reading.specs.Rooms.{pairs#, begun#, answer}
use Rattle.claims_reading.proofs.Files.{one_plus_counts}
use Rattle.claims_reading.proofs.Parsed.{accepted_is}
use Rattle.claims_reading.proofs.Rooms.{room_accepts, accepted_roomy}

-- no more than these have room for
pub room_taken : (f P M : List ℕ) (s : Psbt) (p m : ℕ) (P' M' : List ℕ) → parsed f P M ≡ out (Accepted s p m) P' M'
    → (a : Accepts f P M s p m P' M') → Room a.content P M
unfolding answer
room_taken f P M s p m P' M' q a =
    let r = accepted_roomy f P M s p m P' M' q in
    let w : Accepted s p m ≡ Accepted (psbt_of a.content.global.pairs) (pairs# (events f)) (begun# (events f)) =
    sym (ap answer q) ∙ room_accepts f P M a.content a.reads r in
    let x : p ≡ pairs# (events f) = cc in
    let y : m ≡ begun# (events f) = cc in
    record { pairs = omega (arith, r.pairs, a.pairs); maps = omega (arith, r.maps, a.maps) }

-- so it reports no more maps
pub reports_few : (f P M : List ℕ) (s : Psbt) (p m : ℕ) (P' M' : List ℕ) → parsed f P M ≡ out (Accepted s p m) P' M'
    → maps_reported s * map_words ≤ length M
reports_few f P M s p m P' M' q =
    let a = accepted_is f P M s p m P' M' q in
    rw a.reports (omega (arith, (room_taken f P M s p m P' M' q a).maps, one_plus_counts f a.content a.reads))
