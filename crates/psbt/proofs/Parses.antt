-- A parse is its length, its magic and its maps, cut by the room; any two outcomes that meet its promise agree; and what it accepts it shows.
use Rattle.std.specs.Ordering.{is_eq}
use Prim.Native.Nat.{ℕ, ◌≤◌, ◌<◌}
use mathlib.Core.Path.{◌≡◌, sym, ◌∙◌, ap}
use mathlib.Core.Bool.{Bool, true, false, not}
use mathlib.Core.List.{List}
use native.Mathlib.Omega.{arith}
use borrow.Author.Tests.{le-leb, lt-leb, not-true, not-false}
use lib.ListN.{length, take, drop, length-take}
use lib.Seq.{take_all}
use Rattle.format.specs.Keys.{order, same}
use Rattle.format.specs.Content.{magic, maps_of}
use Rattle.format.specs.Reading.{limit, events_of, events, reading}
use Rattle.format.specs.Tables.{view}
use Rattle.format.specs.Parse.{ParseOut, out, cut, parsed}
use Rattle.format.specs.Told.{told_with, told_parsed, told_parse}
use Rattle.format.specs.declared.PsbtError.TheVariants.{InvalidMagic, TooLong}
use Rattle.std.specs.declared.cmp.Ordering.{Ordering}
use Rattle.std.specs.declared.cmp.Ordering.TheVariants.{Less, Equal, Greater}
use Rattle.format.specs.declared.Psbt.{Psbt}
use Rattle.format.specs.declared.Parsed.{Parsed}
use Rattle.format.specs.declared.Parsed.TheVariants as A
use Rattle.format.proofs.Tests.{no_by}
use Rattle.format.proofs.Keys.{same_is}
use Rattle.format.proofs.Told.{parse_out_one}
use Rattle.claims_reading.specs.Rooms.{pairs#, ended#, Roomy, answer, answer_of}
use Rattle.claims_reading.specs.Shown.{view_by}
use Rattle.claims_reading.proofs.Rooms.{room_answers}
use Rattle.claims_reading.proofs.Promised.{promised_accepts}
use Rattle.claims_reading.proofs.Shown.{accepted_shows}
use Rattle.psbt.specs.Leans.{begins, lean, cut_lean, maps_read}
use Rattle.psbt.specs.Steps.{InLimit}
use Rattle.psbt.proofs.Leans.{cut_lean_lem, maps_walked}

-- the magic
pub magic_short : (F : List ℕ) → length F < 5 → false ≡ same (take 5 F) magic
magic_short F h =
    sym (no_by (same (take 5 F) magic) (λ q. let e : length (take 5 F) ≡ 5 = ap length (same_is (take 5 F) magic q) in
    let f : length (take 5 F) ≡ length F = ap length (take_all 5 F (omega arith)) in omega arith))

module _ (F : List ℕ) (o : Ordering) (is : o ≡ order (take 5 F) magic) where
  pub magic_below : o ≡ Less → false ≡ same (take 5 F) magic
  unfolding same
  magic_below h = ap is_eq (sym (sym is ∙ h))

  pub magic_same : o ≡ Equal → true ≡ same (take 5 F) magic
  unfolding same
  magic_same h = ap is_eq (sym (sym is ∙ h))

  pub magic_above : o ≡ Greater → false ≡ same (take 5 F) magic
  unfolding same
  magic_above h = ap is_eq (sym (sym is ∙ h))

pub ruleset magics = (magic_short, magic_below, magic_same, magic_above)

-- the ways through a parse
tell : (r : Parsed) (P M : List ℕ) (o : ParseOut) → out r P M ≡ o → told_with (told_parsed r) P M ≡ told_parse o
unfolding told_parse
tell r P M o e = ap told_parse e

module _ (F P M : List ℕ) where
  pub too_long : limit < length F → told_with (told_parsed (A.Refused TooLong 0 0)) P M ≡ told_parse (parsed F P M)
  unfolding parsed events events_of cut
  too_long h = tell _ P M _ (sym (rw (lt-leb (length F) limit h)))

  module _ (l : length F ≤ limit) (b : Bool) (e : b ≡ same (take 5 F) magic) where
    pub no_magic : not b ≡ true → told_with (told_parsed (A.Refused InvalidMagic 0 0)) P M ≡ told_parse (parsed F P M)
    unfolding parsed events events_of cut
    no_magic h = tell _ P M _ (sym (rw (le-leb (length F) limit l, sym e ∙ not-true b h)))

    pub in_limit : not b ≡ false → InLimit (length F)
    in_limit h = record { magic = long; short = l }
      where
        long : 5 ≤ length F
        long =
            let g : length (take 5 F) ≡ 5 = ap length (same_is (take 5 F) magic (sym e ∙ not-false b h)) in
            omega (arith, length-take 5 F)

    pub maps_told : not b ≡ false → (r : Parsed) (P' M' : List ℕ) → out r P' M' ≡ maps_read F P M → told_with (told_parsed r) P' M' ≡ told_parse (parsed F P M)
    unfolding parsed events events_of maps_read lean
    maps_told h r P' M' q =
        tell r P' M' _ (q ∙ sym (rw (le-leb (length F) limit l, sym e ∙ not-false b h)
        (cut_lean_lem 5 0 0 0 P M _ ∙ ap (λ x. cut_lean 5 0 0 0 P M (begins x)) (maps_walked (drop 5 F)))))

pub ruleset parses = (too_long, no_magic, in_limit, maps_told)

-- an outcome that meets the promise is the definition's
parse_is : (F P M : List ℕ) (r : Parsed) (P' M' : List ℕ) → told_with (told_parsed r) P' M' ≡ told_parse (parsed F P M) → parsed F P M ≡ out r P' M'
unfolding told_parse
parse_is F P M r P' M' q = sym (parse_out_one (out r P' M') (parsed F P M) q)

-- with rooms at least the file's pairs and maps the answer is the reading's verdict
pub parse_verdict : (F P M : List ℕ) (r : Parsed) (P' M' : List ℕ) → Roomy (events F) P M → told_with (told_parsed r) P' M' ≡ told_parse (parsed F P M)
    → r ≡ answer_of (reading F) (pairs# (events F)) (ended# (events F))
unfolding answer
parse_verdict F P M r P' M' h q = ap answer (sym (parse_is F P M r P' M' q)) ∙ room_answers F P M h

-- a file that is accepted has a content, and the tables left show exactly that
pub parse_shows : (F P M : List ℕ) (s : Psbt) (p m : ℕ) (P' M' : List ℕ)
    (q : told_with (told_parsed (A.Accepted s p m)) P' M' ≡ told_parse (parsed F P M)) (n : ℕ)
    → view F P' M' s n ≡ view_by n (maps_of (promised_accepts F P M s p m P' M' q).content)
parse_shows F P M s p m P' M' q n = accepted_shows F P M s p m P' M' (promised_accepts F P M s p m P' M' q) n
