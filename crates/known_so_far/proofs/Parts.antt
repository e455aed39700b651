-- Laws of the functions that carry what is known along a file, one for each way through them.
use Prim.Native.Nat.{ℕ, ◌%◌}
use mathlib.Core.Path.{◌≡◌, refl, sym, ◌∙◌, ap}
use mathlib.Core.Bool.{Bool, true, false, not, ◌&&◌}
use mathlib.Core.List.{List, []}
use borrow.Author.Tests.{eq-eqb, ne_eqb}
use lib.Dec.{eqb}
use lib.ListN.{length}
use lib.IntN.{ℤ}
use lib.Bits.{bit_and, and_mask}
use Rattle.format.specs.Tests.{pick}
use Rattle.format.specs.Numbers.{signed}
use Rattle.format.specs.Keys.{key_of, same}
use Rattle.format.specs.Compact.{count}
use Rattle.format.specs.Content.{size_value, output_by}
use Rattle.format.specs.declared.MapKind.{MapKind}
use Rattle.format.specs.declared.MapKind.TheVariants.{Global, Input, Output, Other}
use Rattle.format.specs.declared.PsbtError.{PsbtError}
use Rattle.format.specs.declared.PsbtError.TheVariants.{MissingCounts, NotAllowed, MissingOutputScript, InvalidSilentPayment}
use Rattle.format.specs.declared.CompactSize.{CompactSize}
use Rattle.format.specs.Answers.{passed, Maybe, Ruled, Size}
use Rattle.std.specs.Prelude.{Ok, Err, Some}
use Rattle.keys.proofs.Bare.{bare_not}
use Rattle.wire.specs.Leads.{lead}
use Rattle.format.specs.Locks.{or_zero}
use Rattle.known_so_far.specs.SoFar.{noted_by, as_number, as_count, as_there, noted, noted_count, noted_there, note_global, note_output}
use Rattle.known_so_far.specs.SoFar.{with_globals, with_seen, note_by, note, there, all_there, version_rule, globals_rule, psbt_from, flags}
use Rattle.known_so_far.proofs.Notes.{note_global_lem, note_output_lem}
use Rattle.known_so_far.specs.declared.Globals.{Globals}
use Rattle.known_so_far.specs.declared.Seen.{Seen}
use Rattle.known_so_far.specs.declared.Known.{Known}

-- the value of a compact size
pub size_bad : (x : Size) (e : PsbtError) → x ≡ Err e → 0 ≡ size_value x
unfolding size_value
size_bad x e h = sym (ap size_value h)

pub size_read : (x : Size) (r : CompactSize) → x ≡ Ok r → r.value ≡ size_value x
unfolding size_value
size_read x r h = sym (ap size_value h)

pub ruleset sizes_of = (size_bad, size_read)

-- a field after a pair, where b says whether the pair has its key
module _ (t : ℕ) (key v : List ℕ) (b : Bool) (is : b ≡ same (key_of t []) key) where
  by_yes : {A : Type 0} (read : List ℕ → A) (old : A) → b ≡ true → read v ≡ noted_by read t key v old
  unfolding noted_by
  by_yes read old h = rw (sym is ∙ h)

  by_no : {A : Type 0} (read : List ℕ → A) (old : A) → b ≡ false → old ≡ noted_by read t key v old
  unfolding noted_by
  by_no read old h = rw (sym is ∙ h)

  pub noted_yes : (x : ℕ) (old : Maybe) → b ≡ true → x ≡ lead 4 v → Some x ≡ noted t key v old
  unfolding noted as_number
  noted_yes x old h e = ap Some e ∙ by_yes as_number old h

  pub noted_no : (old : Maybe) → b ≡ false → old ≡ noted t key v old
  unfolding noted
  noted_no old h = by_no as_number old h

  pub count_yes : (z : Size) (x old : ℕ) → b ≡ true → z ≡ count v → x ≡ size_value z → x ≡ noted_count t key v old
  unfolding noted_count as_count
  count_yes z x old h e f = f ∙ ap size_value e ∙ by_yes as_count old h

  pub count_no : (old : ℕ) → b ≡ false → old ≡ noted_count t key v old
  unfolding noted_count
  count_no old h = by_no as_count old h

  pub there_yes : (old : Bool) → b ≡ true → b ≡ noted_there t key v old
  unfolding noted_there as_there
  there_yes old h = h ∙ by_yes as_there old h

  pub there_no : (old : Bool) → b ≡ false → old ≡ noted_there t key v old
  unfolding noted_there
  there_no old h = by_no as_there old h

pub ruleset notes = (noted_yes, noted_no, count_yes, count_no, there_yes, there_no)

-- the fields noted together
pub note_fields : (g : Globals) (key v : List ℕ) (a b : Maybe) (c d : ℕ) (e f : Maybe) (x y : Bool)
    → a ≡ noted 0x02 key v g.tx_version → b ≡ noted 0x03 key v g.fallback_locktime → c ≡ noted_count 0x04 key v g.n_inputs
    → d ≡ noted_count 0x05 key v g.n_outputs → e ≡ noted 0x06 key v g.tx_modifiable → f ≡ noted 0xfb key v g.psbt_version
    → x ≡ noted_there 0x04 key [] g.has_inputs → y ≡ noted_there 0x05 key [] g.has_outputs
    → record {
      tx_version = a;
      fallback_locktime = b;
      n_inputs = c;
      n_outputs = d;
      tx_modifiable = e;
      psbt_version = f;
      has_inputs = x;
      has_outputs = y;
    } ≡ note_global key v g
unfolding note_global noted_there noted_by as_there
note_fields g key v a b c d e f x y p q r s t u m n =
    λ i. record {
      tx_version = p i;
      fallback_locktime = q i;
      n_inputs = r i;
      n_outputs = s i;
      tx_modifiable = t i;
      psbt_version = u i;
      has_inputs = m i;
      has_outputs = n i;
    }

pub note_seen : (o : Seen) (key v : List ℕ) (a b c : Bool)
    → a ≡ noted_there 0x04 key v o.script → b ≡ noted_there 0x09 key v o.code → c ≡ noted_there 0x0a key v o.label
    → record { script = a; code = b; label = c } ≡ note_output key v o
unfolding note_output
note_seen o key v a b c p q r = λ i. record { script = p i; code = q i; label = r i }

-- what is carried on after a pair
module _ (w : Known) (key v : List ℕ) where
  wide_no : (t : ℕ) → (length key ≡ 1 → ⊥) → same (key_of t []) key ≡ false
  wide_no t h = sym (bare_not key t h)

  wide_by : (length key ≡ 1 → ⊥) → (k : MapKind) → note_by k key v w ≡ w
  unfolding note_by with_globals with_seen note_global note_output noted noted_count noted_there noted_by
  wide_by h Global = rw (wide_no 0x02 h, wide_no 0x03 h, wide_no 0x04 h, wide_no 0x05 h, wide_no 0x06 h, wide_no 0xfb h)
  wide_by h Input = refl
  wide_by h Output = rw (wide_no 0x04 h, wide_no 0x09 h, wide_no 0x0a h)
  wide_by h Other = refl

  pub note_wide : (length key ≡ 1 → ⊥) → w ≡ note key v w
  unfolding note
  note_wide h = sym (wide_by h w.kind)

  pub note_g : (g : Globals) → w.kind ≡ Global → g ≡ note_global key v w.globals
      → record { kind = w.kind; globals = g; inputs = w.inputs; outputs = w.outputs; seen = w.seen; ruled = w.ruled } ≡ note key v w
  unfolding with_globals
  note_g g k e = ap (with_globals w) e ∙ sym (note_global_lem w key v k)

  pub note_o : (o : Seen) → w.kind ≡ Output → o ≡ note_output key [] w.seen
      → record { kind = w.kind; globals = w.globals; inputs = w.inputs; outputs = w.outputs; seen = o; ruled = w.ruled } ≡ note key v w
  unfolding with_seen note_output noted_there noted_by as_there
  note_o o k e = ap (with_seen w) e ∙ sym (note_output_lem w key v k)

  pub note_i : w.kind ≡ Input → w ≡ note key v w
  unfolding note note_by
  note_i k = sym (rw k)

pub ruleset pair_notes = (note_wide, note_g, note_o, note_i)

-- all that has to be in the global map
module _ (g : Globals) (a : Bool) (p : a ≡ there g.tx_version) where
  pub no_version : a ≡ false → a ≡ all_there g
  unfolding all_there
  no_version h = h ∙ sym (rw (sym p ∙ h))

  module _ (h : a ≡ true) where
    pub no_inputs : g.has_inputs ≡ false → g.has_inputs ≡ all_there g
    unfolding all_there
    no_inputs k = k ∙ sym (rw (sym p ∙ h, k))

    module _ (k : g.has_inputs ≡ true) where
      pub no_outputs : g.has_outputs ≡ false → g.has_outputs ≡ all_there g
      unfolding all_there
      no_outputs l = l ∙ sym (rw (sym p ∙ h, k, l))

      pub counts_there : g.has_outputs ≡ true → (d : Bool) → d ≡ there g.psbt_version → d ≡ all_there g
      unfolding all_there
      counts_there l d q = q ∙ sym (rw (sym p ∙ h, k, l))

pub ruleset all_theres = (no_version, no_inputs, no_outputs, counts_there)

module _ (m : Maybe) (n : ℕ) (e : n ≡ or_zero m) where
  pub version_two : n ≡ 2 → passed ≡ version_rule m
  unfolding version_rule
  version_two h = sym (rw (← e, eq-eqb n 2 h))

  pub version_other : (n ≡ 2 → ⊥) → Err NotAllowed ≡ version_rule m
  unfolding version_rule
  version_other h = sym (rw (← e, ne_eqb n 2 h))

module _ (g : Globals) (b : Bool) (e : b ≡ all_there g) where
  pub rule_there : (y : Ruled) → b ≡ true → y ≡ version_rule g.psbt_version → y ≡ globals_rule g
  unfolding globals_rule
  rule_there y h q = q ∙ sym (rw (sym e ∙ h))

  pub rule_missing : b ≡ false → Err MissingCounts ≡ globals_rule g
  unfolding globals_rule
  rule_missing h = sym (rw (sym e ∙ h))

pub ruleset globals = (version_two, version_other, rule_there, rule_missing)

-- the rule of an output: a label is fine beside a code
labelled : (l : Bool) → pick (l && false) (Err InvalidSilentPayment) passed ≡ passed
labelled true = refl
labelled false = refl

module _ (f s c l : Bool) where
  pub out_none : s ≡ false → c ≡ false → Err MissingOutputScript ≡ output_by f s c l
  unfolding output_by
  out_none h k = sym (rw (h, k))

  pub out_code : s ≡ false → c ≡ true → passed ≡ output_by f s c l
  unfolding output_by
  out_code h k = sym (rw (h, k) (labelled l))

  pub out_script : s ≡ true → c ≡ false → l ≡ false → passed ≡ output_by f s c l
  unfolding output_by
  out_script h k m = sym (rw (h, k, m))

  pub out_label : s ≡ true → c ≡ false → l ≡ true → Err InvalidSilentPayment ≡ output_by f s c l
  unfolding output_by
  out_label h k m = sym (rw (h, k, m))

  module _ (b : Bool) (e : b ≡ f) where
    pub out_flags : s ≡ true → c ≡ true → b ≡ true → Err InvalidSilentPayment ≡ output_by f s c l
    unfolding output_by
    out_flags h k m = sym (rw (h, k, sym e ∙ m))

    pub out_both : s ≡ true → c ≡ true → b ≡ false → passed ≡ output_by f s c l
    unfolding output_by
    out_both h k m = sym (rw (h, k, sym e ∙ m) (labelled l))

pub ruleset outputs = (out_none, out_code, out_script, out_label, out_flags, out_both)

-- what is reported
pub report : (g : Globals) (n : ℕ) (z : ℤ) → n ≡ or_zero g.tx_version → z ≡ signed n
    → record { tx_version = z; fallback_locktime = g.fallback_locktime; tx_modifiable = g.tx_modifiable; inputs = g.n_inputs; outputs = g.n_outputs }
    ≡ psbt_from g
unfolding psbt_from
report g n z p q = λ j. record {
  tx_version = (q ∙ ap signed p) j;
  fallback_locktime = g.fallback_locktime;
  tx_modifiable = g.tx_modifiable;
  inputs = g.n_inputs;
  outputs = g.n_outputs;
}

-- the two low flags
pub low_flags : (m : Maybe) (n : ℕ) → n ≡ or_zero m → not (eqb (bit_and n 3) 0) ≡ flags m
unfolding flags
low_flags m n e = ap (λ (x : ℕ). not (eqb x 0)) (and_mask n 2) ∙ ap (λ (x : ℕ). not (eqb (x % 4) 0)) e
