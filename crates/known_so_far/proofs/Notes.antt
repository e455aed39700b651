-- Noting a field at its pair, along pairs whose keys rise, is finding it among them.
use Prim.Native.Nat.{ℕ, ◌≤◌}
use mathlib.Core.Path.{◌≡◌, refl, sym, ◌∙◌, ap, subst}
use mathlib.Core.Bool.{Bool, true, false}
use mathlib.Core.List.{List, [], ◌∷◌}
use native.Mathlib.Omega.{arith}
use borrow.Author.Tests.{eqb-true}
use lib.Dec.{eqb}
use lib.ListN.{length}
use lib.Seq.{take_all}
use Rattle.format.specs.Tests.{pick}
use Rattle.format.specs.Numbers.{le}
use Rattle.format.specs.Compact.{size, count_by_def, count}
use Rattle.format.specs.Keys.{type_of, data_of, key_of, same}
use Rattle.format.specs.Rules.{GLOBAL, value_fits, is_row, row_rule, sizes_in, sizes, count_rule, bare_rule, and_then, rule}
use Rattle.format.specs.Content.{Pair, Found, absent, found, find, field, present, number, maybe, size_value}
use Rattle.format.specs.Content.{counted, psbt_of, global_rule, modifiable, output_rule}
use Rattle.format.specs.Locks.{or_zero}
use Rattle.format.specs.declared.MapKind.TheVariants.{Global, Input, Output}
use Rattle.format.specs.declared.PsbtError.TheVariants.{BadValue}
use Rattle.format.specs.Answers.{passed, Ruled, Size}
use Rattle.std.specs.Prelude.{Ok, Err, Some, None}
use Rattle.format.proofs.Tests.{pick_by}
use Rattle.format.proofs.Keys.{same_is}
use Rattle.format.proofs.Numbers.{All}
use Rattle.claims_reading.specs.Fine.{Rises, Keeps}
use Rattle.claims_reading.proofs.Rises.{rises_from}
use Rattle.wire.specs.Leads.{lead}
use Rattle.wire.proofs.Bounds.{count_read}
use Rattle.known_so_far.specs.SoFar.{noted_by, as_number, as_count, as_there, noted, noted_count, noted_there, note_global}
use Rattle.known_so_far.specs.SoFar.{note_output, with_globals, with_seen, note_by, note, no_globals, unseen, there, all_there}
use Rattle.known_so_far.specs.SoFar.{version_rule, globals_rule, psbt_from, flags, seen_rule}
use Rattle.known_so_far.specs.declared.Globals.{Globals}
use Rattle.known_so_far.specs.declared.Seen.{Seen}
use Rattle.known_so_far.specs.declared.Known.{Known}

-- a field noted along pairs
unfoldable pub along_by : {A : Type 0} → (List ℕ → A) → ℕ → List Pair → A → A
along_by read t [] old = old
along_by read t (p ∷ ps) old = along_by read t ps (noted_by read t p.key p.value old)

-- what was found, read; or what was there before
unfoldable or_old : {A : Type 0} → (List ℕ → A) → Found → A → A
or_old read absent old = old
or_old read (found v) old = read v

-- keys that rise behind a key have not that key
absent_behind : (last : List ℕ) (ps : List Pair) → Rises last ps → find last ps ≡ absent
unfolding find same
absent_behind last [] h = refl
absent_behind last (p ∷ ps) h = rw h.0 (absent_behind last ps (rises_from last p.key ps h.0 h.1))

along_is : {A : Type 0} (read : List ℕ → A) (t : ℕ) (last : List ℕ) (ps : List Pair) (old : A)
    → Rises last ps → along_by read t ps old ≡ or_old read (field t ps) old
unfolding along_by noted_by or_old field find
along_is read t last [] old h = refl
along_is {A} read t last (p ∷ ps) old h = by (same (key_of t []) p.key) refl (λ (x : A). along_is read t p.key ps x h.1)
  where
    by : (b : Bool) → same (key_of t []) p.key ≡ b → ((x : A) → along_by read t ps x ≡ or_old read (find (key_of t []) ps) x)
        → along_by read t ps (pick b (read p.value) old) ≡ or_old read (pick b (found p.value) (find (key_of t []) ps)) old
    by true q i = i (read p.value) ∙ ap (λ (f : Found). or_old read f (read p.value))
        (ap (λ (k : List ℕ). find k ps) (same_is (key_of t []) p.key q) ∙ absent_behind p.key ps h.1)
    by false q i = i old

-- a value that is found keeps the field rule
found_keeps : (k : ℕ) (key : List ℕ) (ps : List Pair) (v : List ℕ) → All (Keeps (rule k)) ps → find key ps ≡ found v → rule k key v ≡ passed
unfolding find
found_keeps k key [] v a e = let z : ◌≡◌ {A = ℕ} 0 1 = cc in absurd (omega arith)
found_keeps k key (p ∷ ps) v a e = by (same key p.key) refl (found_keeps k key ps v a.1) e
  where
    by : (b : Bool) → same key p.key ≡ b → (find key ps ≡ found v → rule k key v ≡ passed)
        → pick b (found p.value) (find key ps) ≡ found v → rule k key v ≡ passed
    by true q i e =
        let w : p.value ≡ v = cc in
        subst (λ (x : List ℕ). rule k key x ≡ passed) w (subst (λ (x : List ℕ). rule k x p.value ≡ passed) (sym (same_is key p.key q)) a.0)
    by false q i e = i e

-- a rule that passes has passed in both its parts
both_passed : (x y : Ruled) → and_then x y ≡ passed → (x ≡ passed) × (y ≡ passed)
unfolding and_then
both_passed (Ok u) y h = (refl, h)
both_passed (Err e) y h = let z : ◌≡◌ {A = ℕ} 0 1 = cc in absurd (omega arith)

size_passed : (n m : ℕ) → pick (eqb n m) passed (Err BadValue) ≡ passed → n ≡ m
size_passed n m =
    pick_by (λ (y : Ruled). y ≡ passed → n ≡ m) (eqb n m) _ _
    (λ q h. eqb-true n m q) (λ q (h : Err BadValue ≡ passed). let z : ◌≡◌ {A = ℕ} 0 1 = cc in absurd (omega arith))

-- a global field whose row asks m bytes has m
global_sized : (t m : ℕ) (v : List ℕ) → ((n : ℕ) → sizes GLOBAL t 0 n ≡ pick (eqb n m) passed (Err BadValue))
    → rule GLOBAL (key_of t []) v ≡ passed → length v ≡ m
unfolding rule key_of type_of data_of
global_sized t m v is h = size_passed (length v) m (sym (is (length v)) ∙ (both_passed _ _ h).0)

-- a count field that passes is a compact size, whole
counted_is : (v : List ℕ) (y : Size) → count v ≡ y → count_rule y ≡ passed → size_value (count v) ≡ size_value (size v)
unfolding count_rule count
counted_is v (Ok r) q h = rw q (unfold size_value in ap size_value (sym (count_read (length v) (count_by_def (length v) (size v)) (size v) r refl q)))
counted_is v (Err e) q h = let z : ◌≡◌ {A = ℕ} 0 1 = cc in absurd (omega arith)

-- what noting gives from nothing on, by what is found
module _ (ps : List Pair) (h : Rises [] ps) (a : All (Keeps (rule GLOBAL)) ps) where
  number_along : (t m : ℕ) → m ≤ 4 → ((n : ℕ) → sizes GLOBAL t 0 n ≡ pick (eqb n m) passed (Err BadValue))
      → along_by as_number t ps None ≡ maybe (field t ps)
  unfolding or_old maybe as_number lead field
  number_along t m l is = along_is as_number t [] ps None h ∙ by (field t ps) refl
    where
      by : (f : Found) → field t ps ≡ f → or_old as_number f None ≡ maybe f
      by absent q = refl
      by (found v) q =
          let e : length v ≡ m = global_sized t m v is (found_keeps GLOBAL (key_of t []) ps v a q) in
          ap (λ (x : List ℕ). Some (le x)) (take_all 4 v (omega arith))

  count_along : (t : ℕ) → ((v : List ℕ) → rule GLOBAL (key_of t []) v ≡ count_rule (count v)) → along_by as_count t ps 0 ≡ counted (field t ps)
  unfolding or_old counted as_count field
  count_along t is = along_is as_count t [] ps 0 h ∙ by (field t ps) refl
    where
      by : (f : Found) → field t ps ≡ f → or_old as_count f 0 ≡ counted f
      by absent q = refl
      by (found v) q = counted_is v (count v) refl (sym (is v) ∙ found_keeps GLOBAL (key_of t []) ps v a q)

there_along : (t : ℕ) (ps : List Pair) → Rises [] ps → along_by as_there t ps false ≡ present (field t ps)
unfolding or_old present as_there
there_along t ps h = along_is as_there t [] ps false h ∙ by (field t ps)
  where
    by : (f : Found) → or_old as_there f false ≡ present f
    by absent = refl
    by (found v) = refl

-- the pairs of a map noted one after the other
unfoldable pub note_all : Known → List Pair → Known
note_all w [] = w
note_all w (p ∷ ps) = note_all (note p.key p.value w) ps

-- those of the global map
unfoldable globals_along : List Pair → Globals → Globals
globals_along ps g = record {
  tx_version = along_by as_number 0x02 ps g.tx_version;
  fallback_locktime = along_by as_number 0x03 ps g.fallback_locktime;
  n_inputs = along_by as_count 0x04 ps g.n_inputs;
  n_outputs = along_by as_count 0x05 ps g.n_outputs;
  tx_modifiable = along_by as_number 0x06 ps g.tx_modifiable;
  psbt_version = along_by as_number 0xfb ps g.psbt_version;
  has_inputs = along_by as_there 0x04 ps g.has_inputs;
  has_outputs = along_by as_there 0x05 ps g.has_outputs;
}

-- those of an output
unfoldable seen_along : List Pair → Seen → Seen
seen_along ps o = record {
  script = along_by as_there 0x04 ps o.script;
  code = along_by as_there 0x09 ps o.code;
  label = along_by as_there 0x0a ps o.label;
}

pub note_global_lem : (w : Known) (key v : List ℕ) → w.kind ≡ Global → note key v w ≡ with_globals w (note_global key v w.globals)
unfolding note note_by
note_global_lem w key v k = rw k

pub note_output_lem : (w : Known) (key v : List ℕ) → w.kind ≡ Output → note key v w ≡ with_seen w (note_output key v w.seen)
unfolding note note_by
note_output_lem w key v k = rw k

global_all : (w : Known) (ps : List Pair) → w.kind ≡ Global → note_all w ps ≡ with_globals w (globals_along ps w.globals)
unfolding note_all with_globals globals_along along_by note_global noted noted_count noted_there
global_all w [] k = refl
global_all w (p ∷ ps) k = rw (note_global_lem w p.key p.value k) (global_all (with_globals w (note_global p.key p.value w.globals)) ps k)

output_all : (w : Known) (ps : List Pair) → w.kind ≡ Output → note_all w ps ≡ with_seen w (seen_along ps w.seen)
unfolding note_all with_seen seen_along along_by note_output noted_there
output_all w [] k = refl
output_all w (p ∷ ps) k = rw (note_output_lem w p.key p.value k) (output_all (with_seen w (note_output p.key p.value w.seen)) ps k)

-- the global fields as they are found
unfoldable pub found_globals : List Pair → Globals
found_globals ps = record {
  tx_version = maybe (field 0x02 ps);
  fallback_locktime = maybe (field 0x03 ps);
  n_inputs = counted (field 0x04 ps);
  n_outputs = counted (field 0x05 ps);
  tx_modifiable = maybe (field 0x06 ps);
  psbt_version = maybe (field 0xfb ps);
  has_inputs = present (field 0x04 ps);
  has_outputs = present (field 0x05 ps);
}

pub global_noted : (w : Known) (ps : List Pair) → w.kind ≡ Global
    → w.globals ≡ no_globals → Rises [] ps → All (Keeps (rule GLOBAL)) ps → note_all w ps ≡ with_globals w (found_globals ps)
unfolding globals_along found_globals sizes sizes_in is_row row_rule value_fits rule bare_rule key_of type_of data_of and_then
global_noted w ps k g h a =
    global_all w ps k ∙ rw (
      g,
      number_along ps h a 0x02 4 (omega arith) (λ n. refl),
      number_along ps h a 0x03 4 (omega arith) (λ n. refl),
      count_along ps h a 0x04 (λ v. refl),
      count_along ps h a 0x05 (λ v. refl),
      number_along ps h a 0x06 1 (omega arith) (λ n. refl),
      number_along ps h a 0xfb 4 (omega arith) (λ n. refl),
      there_along 0x04 ps h,
      there_along 0x05 ps h,
    )

-- what an output has, as it is found
unfoldable pub found_seen : List Pair → Seen
found_seen ps = record { script = present (field 0x04 ps); code = present (field 0x09 ps); label = present (field 0x0a ps) }

pub output_noted : (w : Known) (ps : List Pair) → w.kind ≡ Output → w.seen ≡ unseen → Rises [] ps → note_all w ps ≡ with_seen w (found_seen ps)
unfolding seen_along found_seen
output_noted w ps k o h = output_all w ps k ∙ rw (o, there_along 0x04 ps h, there_along 0x09 ps h, there_along 0x0a ps h)

-- an input's pairs are not noted
note_input_lem : (w : Known) (key v : List ℕ) → w.kind ≡ Input → note key v w ≡ w
unfolding note note_by
note_input_lem w key v k = rw k

pub input_noted : (w : Known) (ps : List Pair) → w.kind ≡ Input → note_all w ps ≡ w
unfolding note_all
input_noted w [] k = refl
input_noted w (p ∷ ps) k = rw (note_input_lem w p.key p.value k) (input_noted w ps k)

-- what is decided by what was noted is what is decided by what is found
zero_maybe : (f : Found) → or_zero (maybe f) ≡ number f
unfolding maybe number
zero_maybe absent = refl
zero_maybe (found v) = refl

there_maybe : (f : Found) → there (maybe f) ≡ present f
unfolding maybe present
there_maybe absent = refl
there_maybe (found v) = refl

pub psbt_from_lem : (ps : List Pair) → psbt_from (found_globals ps) ≡ psbt_of ps
unfolding psbt_from found_globals psbt_of
psbt_from_lem ps = rw (zero_maybe (field 0x02 ps))

pub global_rule_lem : (ps : List Pair) → globals_rule (found_globals ps) ≡ global_rule ps
unfolding globals_rule all_there version_rule found_globals global_rule
global_rule_lem ps = rw (there_maybe (field 0x02 ps), there_maybe (field 0xfb ps), zero_maybe (field 0xfb ps))

pub flags_are : (ps : List Pair) → flags (maybe (field 0x06 ps)) ≡ modifiable (field 0x06 ps)
unfolding flags modifiable
flags_are ps = rw (zero_maybe (field 0x06 ps))

pub seen_rule_lem : (g ps : List Pair) → seen_rule (found_globals g) (found_seen ps) ≡ output_rule (modifiable (field 0x06 g)) ps
unfolding seen_rule found_globals found_seen output_rule
seen_rule_lem g ps = rw (flags_are g)

pub inputs_counted : (ps : List Pair) → (found_globals ps).n_inputs ≡ counted (field 0x04 ps)
unfolding found_globals
inputs_counted ps = refl

pub outputs_counted : (ps : List Pair) → (found_globals ps).n_outputs ≡ counted (field 0x05 ps)
unfolding found_globals
outputs_counted ps = refl
