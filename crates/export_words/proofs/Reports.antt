-- What a parse exports comes back: the words of an accepted parse are a report, of what was reported; those of a refused one are none.
use Prim.Native.Nat.{ℕ, ◌%◌, ◌^◌, ◌≤◌, ◌<◌}
use mathlib.Core.Path.{◌≡◌, refl, sym, ◌∙◌, ap, subst}
use mathlib.Core.Bool.{true, false}
use mathlib.Core.List.{List, [], ◌∷◌, ◌++◌}
use native.Mathlib.Omega.{arith}
use borrow.Author.Tests.{ne_eqb, le-leb, eqb-true}
use lib.Dec.{leb, eqb}
use lib.IntN.{ℤ}
use lib.ListN.{length, drop}
use mir.Syntax.{w32}
use mir.Val.{SFits, to_z, of_z}
use mir.Facts.{to_z-of_z, Fits-of_z, sfits_to_z}
use Rattle.format.specs.Tests.{pick}
use Rattle.format.specs.Numbers.{le, signed, unsigned}
use Rattle.format.specs.Keys.{key_of, type_of, data_of, same}
use Rattle.format.specs.Rules.{GLOBAL, bare_rule, sizes, sizes_in, is_row, row_rule, value_fits, and_then, rule}
use Rattle.format.specs.Content.{Pair, magic, pair_bytes, pairs_bytes, map_bytes, maps_bytes, bytes, Found, absent, found, find, field, number, maybe, psbt_of}
use Rattle.format.specs.Parse.{parsed, out}
use Rattle.format.specs.Told.{Told, told, maybe_value, told_with, ToldOut, told_parsed, told_parse}
use Rattle.format.specs.Refusals.{number_of}
use Rattle.format.specs.declared.PsbtError.{PsbtError}
use Rattle.format.specs.declared.PsbtError.TheVariants.{BadValue}
use Rattle.format.specs.Answers.{passed, Maybe, Ruled}
use Rattle.std.specs.Prelude.{Err, Some, None}
use Rattle.format.specs.declared.Psbt.{Psbt}
use Rattle.format.specs.declared.State.{State}
use Rattle.format.specs.declared.Parsed.{Parsed}
use Rattle.format.specs.declared.Parsed.TheVariants.{Accepted, Refused}
use Rattle.format.proofs.Numbers.{All, Byte, le_below, all_split}
use Rattle.format.proofs.Tests.{pick_no, pick_by}
use Rattle.format.proofs.Keys.{same_is}
use Rattle.claims_reading.specs.Fine.{Keeps}
use Rattle.claims_reading.proofs.Files.{reading_is}
use Rattle.claims_reading.proofs.Parsed.{accepted_is}
use Rattle.export_words.specs.Fitting.{Narrow, Fitting}
use Rattle.export_words.specs.Words.{word, words_of, words_told, answer_words, no_value, maybe_of, psbt_in, is_report, no_report}
use Rattle.export_words.specs.Words.{state_of, Export, exported, ExportWith, leaves, leaves_both, answered_with, answered}
use Rattle.export_words.specs.Words.{asked, asked_in_def, parse_left, parse_export, out_left, out_export}

-- each value that is reported, back from its word
number_back : (n : ℕ) → n < 2 ^ 32 → maybe_of n ≡ Some n
unfolding maybe_of
number_back n h =
    let d : n % 2 ^ 32 ≡ n = omega arith in
    let e : n ≡ no_value → ⊥ = omega arith in
    rw (ne_eqb n no_value e, d)

maybe_back : (m : Maybe) → Narrow m → maybe_of (word (maybe_value m)) ≡ m
unfolding maybe_of word maybe_value unsigned
maybe_back None h = refl
maybe_back (Some n) h = number_back n h

version_back : (z : ℤ) → SFits w32 z → signed (unsigned z % 2 ^ 32) ≡ z
unfolding signed unsigned
version_back z h =
    let f : of_z w32 z < 2 ^ 32 = (Fits-of_z h).fits in
    let d : of_z w32 z % 2 ^ 32 ≡ of_z w32 z = omega arith in
    ap (to_z w32) d ∙ to_z-of_z h

-- words of a parse at the front of a slice
module _ (rest : List ℕ) (p m : ℕ) where
  -- those of an accepted one are a report
  pub accepted_report : (s : Psbt) → is_report (words_told (told_parsed (Accepted s p m)) ++ rest) ≡ true
  unfolding is_report words_told told_parsed words_of
  accepted_report s = refl

  -- of what was reported
  pub report_back : (s : Psbt) → Fitting s → psbt_in (words_told (told_parsed (Accepted s p m)) ++ rest) ≡ s
  unfolding psbt_in words_told told_parsed words_of word unsigned
  report_back s h =
      rw (version_back s.tx_version h.version, maybe_back s.fallback_locktime h.fallback, maybe_back s.tx_modifiable h.modifiable)

  -- those of a refused one are none
  pub refused_report : (e : PsbtError) → is_report (words_told (told_parsed (Refused e p m)) ++ rest) ≡ false
  unfolding is_report words_told told_parsed words_of
  refused_report e = refl

-- the values of a file of bytes
abbrev ByteValue : Pair → Type 0
ByteValue p = All Byte p.value

values_bytes : (ps : List Pair) (r : List ℕ) → All Byte (pairs_bytes ps r) → All ByteValue ps
unfolding pairs_bytes pair_bytes
values_bytes [] r h = tt
values_bytes (p ∷ ps) r h =
    let key = (all_split Byte p.klen _ h).1 in
    let vlen = (all_split Byte p.key _ key).1 in
    let value = (all_split Byte p.vlen _ vlen).1 in
    let here = all_split Byte p.value _ value in
    (here.0, values_bytes ps r here.1)

-- a value that is found has 32 bits at most
abbrev Under : Found → Type 0
Under absent = Unit {0}
Under (found v) = le v < 2 ^ 32

under_number : (f : Found) → Under f → number f < 2 ^ 32
unfolding number
under_number absent h = omega arith
under_number (found v) h = h

under_maybe : (f : Found) → Under f → Narrow (maybe f)
unfolding maybe
under_maybe absent h = tt
under_maybe (found v) h = h

-- a sized value that is accepted has its size
has_size : (w : ℕ) (v : List ℕ) → and_then (pick (eqb (length v) w) passed (Err BadValue)) passed ≡ passed → length v ≡ w
unfolding and_then
has_size w v =
    pick_by (λ (x : Ruled). and_then x passed ≡ passed → length v ≡ w) (eqb (length v) w) _ _
    (λ q e. eqb-true (length v) w q)
    (λ q e. let z : ◌≡◌ {A = ℕ} 0 1 = cc in absurd (omega arith))

find_under : (key : List ℕ) (w : ℕ) → 256 ^ w ≤ 2 ^ 32 → ((v : List ℕ) → rule GLOBAL key v ≡ passed → length v ≡ w)
    → (ps : List Pair) → All (Keeps (rule GLOBAL)) ps → All ByteValue ps → Under (find key ps)
unfolding find
find_under key w l s [] k b = tt
find_under key w l s (p ∷ ps) k b =
    pick_by Under (same key p.key) _ _
    (λ q.
    let e : length p.value ≡ w = s p.value (subst (λ (x : List ℕ). rule GLOBAL x p.value ≡ passed) (sym (same_is key p.key q)) k.0) in
    let g : le p.value < 256 ^ w = subst (λ (n : ℕ). le p.value < 256 ^ n) e (le_below p.value b.0) in
    omega arith)
    (λ q. find_under key w l s ps k.1 b.1)

-- what is reported of a global map fits
psbt_fits : (g : List Pair) → All (Keeps (rule GLOBAL)) g → All ByteValue g → Fitting (psbt_of g)
unfolding psbt_of field signed key_of type_of data_of rule sizes sizes_in is_row row_rule value_fits bare_rule
psbt_fits g k b = record {
  version = sfits_to_z (record { fits = under_number (field 0x02 g) (find_under (key_of 0x02 []) 4 (omega arith) (has_size 4) g k b) });
  fallback = under_maybe (field 0x03 g) (find_under (key_of 0x03 []) 4 (omega arith) (has_size 4) g k b);
  modifiable = under_maybe (field 0x06 g) (find_under (key_of 0x06 []) 1 (omega arith) (has_size 1) g k b);
}

-- what a parse of a file of bytes reports fits
pub parse_fits : (f P M : List ℕ) → All Byte f → (s : Psbt) (p m : ℕ) (P' M' : List ℕ) → parsed f P M ≡ out (Accepted s p m) P' M' → Fitting s
unfolding bytes map_bytes
parse_fits f P M h s p m P' M' e =
    let a = accepted_is f P M s p m P' M' e in
    let c = a.content in
    let r = reading_is f c a.reads in
    let b : All Byte (bytes c) = subst (All Byte) (sym r.0) h in
    let behind = maps_bytes c.ins (maps_bytes c.outs []) in
    let v = values_bytes c.global.pairs (c.global.end ++ behind) (all_split Byte magic (map_bytes c.global behind) b).1 in
    subst Fitting (sym a.reports) (psbt_fits c.global.pairs r.1.global.pairs.keeps v)

-- what a parse of a file of bytes exports comes back: its words, at the front of a slice, are a report, of what was reported
pub parse_back : (f P M : List ℕ) → All Byte f → (s : Psbt) (p m : ℕ) (P' M' : List ℕ) → parsed f P M ≡ out (Accepted s p m) P' M' → (rest : List ℕ)
    → (is_report (words_told (told_parsed (Accepted s p m)) ++ rest) ≡ true) × (psbt_in (words_told (told_parsed (Accepted s p m)) ++ rest) ≡ s)
parse_back f P M h s p m P' M' e rest = (accepted_report rest p m s, report_back rest p m s (parse_fits f P M h s p m P' M' e))

-- what a parse leaves in the slice: its words, and behind them what was there
slice_left : (A : List ℕ) → answer_words ≤ length A → (t : Told) (n : ℕ) (A' P Q M N : List ℕ)
    → leaves_both (exported n A') Q N ≡ parse_left A (told_with t P M)
    → A' ≡ words_told t ++ drop answer_words A
unfolding parse_left answered answered_with words_told
slice_left A long (told i vs) n A' P Q M N e =
    let x : leaves_both (exported n A') Q N ≡ leaves_both (exported i (words_of vs ++ drop answer_words A)) P M =
    e ∙ rw (le-leb answer_words (length A) long) in
    cc

-- the slice of eight words or more that an exported parse leaves
module _ (f P M A : List ℕ) (n : ℕ) (A' Q N : List ℕ) (long : answer_words ≤ length A)
    (e : leaves_both (exported n A') Q N ≡ parse_export A P M (told_parse (parsed f P M))) where
  leaves_words : (r : Parsed) (P' M' : List ℕ) → parsed f P M ≡ out r P' M' → A' ≡ words_told (told_parsed r) ++ drop answer_words A
  unfolding parse_export told_parse
  leaves_words r P' M' q = slice_left A long (told_parsed r) n A' P' Q M' N (e ∙ rw (q, le-leb answer_words (length A) long))

  -- of an accepted parse of a file of bytes: a report, of what was reported
  pub parse_leaves_report : All Byte f → (s : Psbt) (p m : ℕ) (P' M' : List ℕ)
      → parsed f P M ≡ out (Accepted s p m) P' M' → (is_report A' ≡ true) × (psbt_in A' ≡ s)
  parse_leaves_report h s p m P' M' q =
      rw (leaves_words (Accepted s p m) P' M' q) (parse_back f P M h s p m P' M' q (drop answer_words A))

  -- of a refused one: no report
  pub parse_leaves_none : (x : PsbtError) (p m : ℕ) (P' M' : List ℕ) → parsed f P M ≡ out (Refused x p m) P' M' → is_report A' ≡ false
  parse_leaves_none x p m P' M' q = rw (leaves_words (Refused x p m) P' M' q) (refused_report (drop answer_words A) p m x)

-- with words that are no report every call tells 24 and leaves its buffer, whatever else it is lent
pub no_report_is : no_report ≡ told 24 []
unfolding no_report number_of
no_report_is = refl

module _ (R A : List ℕ) (none : is_report R ≡ false) where
  pub none_asked : (k : Psbt → Told) → asked R A k ≡ answered A no_report
  unfolding asked
  none_asked k = rw none

  pub none_asked_in : (a b : ℕ) (k : State → Psbt → Told) → asked_in_def a b R A k ≡ answered A no_report
  unfolding asked_in_def
  none_asked_in a b k = none_asked (k (state_of a b))

  pub none_out : (a b : ℕ) (B : List ℕ) (k : State → Psbt → ToldOut) → out_export a b R A B k ≡ leaves (answered A no_report) B
  unfolding out_export out_left no_report answered answered_with
  none_out a b B k =
      rw none
      (pick_by (λ (x : ExportWith). x ≡ leaves (answered A no_report) B) (leb answer_words (length A)) _ _ (λ q. refl)
      (λ q. ap (λ (x : Export). leaves x B) (sym (pick_no (leb answer_words (length A)) _ _ q))))
