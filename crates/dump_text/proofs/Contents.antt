-- The dump of an accepted file is its content's text, and of a refused one its number, where the tables have the room.
use mathlib.Core.Path.{◌≡◌, refl, sym, ◌∙◌, ap, ap₂}
use mathlib.Core.List.{List, [], ◌∷◌, ◌++◌, map}
use Prim.Native.Nat.{ℕ, suc, ◌+◌, ◌*◌, ◌≤◌}
use native.Mathlib.Nat.{add-zero, zero-add}
use native.Mathlib.Omega.{arith}
use borrow.Author.Tests.{le-ltb}
use lib.ListN.{length, length-map}
use Rattle.format.specs.Content.{Pair, Map, Content, maps_of, psbt_of}
use Rattle.format.specs.Reading.{accepted, refused, reading, events}
use Rattle.format.specs.Entries.{pair_words, map_words}
use Rattle.format.specs.Tables.{View, shows}
use Rattle.format.specs.Parse.{ParseOut, out, parsed}
use Rattle.format.specs.Transaction.{unsigned_tx_def}
use Rattle.format.specs.declared.PsbtError.{PsbtError}
use Rattle.format.specs.declared.Parsed.TheVariants.{Refused}
use Rattle.claims_reading.specs.Shown.{bare, view_by, pairs_in, Room}
use Rattle.claims_reading.specs.Rooms.{Roomy, pairs#, ended#, answer}
use Rattle.claims_reading.proofs.Files.{one_plus_counts}
use Rattle.claims_reading.proofs.Parsed.{parse_is}
use Rattle.claims_reading.proofs.Rooms.{room_refuses}
use Rattle.claims_reading.proofs.Shown.{every_call}
use Rattle.rooms.specs.Limits.{longest, most_pairs, most_maps}
use Rattle.rooms.specs.Rooms.{pair_room, map_room, tx_room, fresh}
use Rattle.rooms.proofs.Zeros.{zeros_long}
use Rattle.dump_text.specs.Lines.{refused_line, head_line, map_line, pair_line, pairs_text, map_text, map_then, maps_text}
use Rattle.dump_text.specs.Dump.{tx_line, accepted_text, parsed_text, dump_in, dump}
use Rattle.dump_text.specs.Contents.{map_lines, content_text}

-- a pair's line doesn't ask how its lengths are spelled
bare_lines : (ps : List Pair) → pairs_text (map bare ps) ≡ pairs_text ps
unfolding pairs_text pair_line bare
bare_lines [] = refl
bare_lines (p ∷ ps) = ap (λ (l : List ℕ). pair_line p ++ l) (bare_lines ps)

bare_text : (m : ℕ) (ps : List Pair) → map_text m (map bare ps) ≡ map_text m ps
unfolding map_text
bare_text m ps = ap₂ (λ (n : ℕ) (l : List ℕ). map_line m n ++ l) (length-map ps bare) (bare_lines ps)

-- maps that show a content's, from number k on
lines_are : (v : ℕ → View) (k : ℕ) (ms : List Map) → ((j : ℕ) → v (k + j) ≡ view_by j ms) → maps_text v k (length ms) ≡ map_lines k ms
unfolding maps_text map_then map_lines view_by
lines_are v k [] h = refl
lines_are v k (x ∷ ms) h =
    let e : v k ≡ shows (map bare x.pairs) = rw (add-zero k) at (h 0) in
    let on : (j : ℕ) → v (k + 1 + j) ≡ view_by j ms = λ j. (let q : k + 1 + j ≡ k + suc j = omega arith in ap v q ∙ h (suc j)) in
    ap (λ (w : View). map_then k w (maps_text v (k + 1) (length ms))) e ∙ ap₂ (λ (a b : List ℕ). a ++ b) (bare_text k x.pairs) (lines_are v (k + 1) ms on)

-- whatever the rooms, as long as they hold the file's pairs and maps
pub dump_accepted : (f : List ℕ) (c : Content) (P M B : List ℕ) → reading f ≡ accepted c → Room c P M → dump_in P M B f ≡ content_text c B
unfolding dump_in parsed_text accepted_text content_text
dump_accepted f c P M B e r =
    ap (parsed_text B f) (parse_is f c P M e r)
    ∙ every_call f c P M e (λ v. accepted_text v (psbt_of c.global.pairs) B)
    ∙ ap (λ (l : List ℕ). head_line (psbt_of c.global.pairs)
    ++ (l ++ tx_line (unsigned_tx_def (λ n. view_by n (maps_of c)) (psbt_of c.global.pairs) fresh [] B)))
    (ap (maps_text (λ n. view_by n (maps_of c)) 0) (sym (one_plus_counts f c e)) ∙ lines_are (λ n. view_by n (maps_of c)) 0 (maps_of c)
    (λ j. ap (λ (n : ℕ). view_by n (maps_of c)) (zero-add j)))

-- a refused file, with room for what is read before the refusal
refused_text_lem : (B f : List ℕ) (o : ParseOut) (e : PsbtError) (p m : ℕ) → answer o ≡ Refused e p m → parsed_text B f o ≡ refused_line e
unfolding answer parsed_text
refused_text_lem B f (out r P M) e p m q = rw q

pub dump_refused : (f : List ℕ) (e : PsbtError) (P M B : List ℕ) → reading f ≡ refused e → Roomy (events f) P M → dump_in P M B f ≡ refused_line e
unfolding dump_in
dump_refused f e P M B q r = refused_text_lem B f (parsed f P M) e (pairs# (events f)) (ended# (events f)) (room_refuses f P M e q r)

-- and so of the dump's own rooms
pub dump_is : (f : List ℕ) (c : Content) → reading f ≡ accepted c → length f ≤ longest → pairs_in (maps_of c) ≤ most_pairs → length (maps_of c) ≤ most_maps
    → dump f ≡ content_text c tx_room
unfolding dump
dump_is f c e h p m =
    rw (le-ltb longest (length f) h)
    (dump_accepted f c pair_room map_room tx_room e
    (record { pairs = omega (arith, zeros_long (most_pairs * pair_words)); maps = omega (arith, zeros_long (most_maps * map_words)) }))
