-- Laws of the functions for the end of a map and of a file, one for each way through them.
use Prim.Native.Nat.{◌-◌, ◌≤◌, ◌<◌}
use mathlib.Core.Path.{◌≡◌, sym, ◌∙◌, ap}
use mathlib.Core.Bool.{Bool, true, false}
use borrow.Author.Tests.{lt-ltb, le-ltb}
use Rattle.format.specs.Rules.{and_then}
use Rattle.format.specs.Content.{output_by}
use Rattle.format.specs.declared.MapKind.TheVariants.{Global, Input, Output}
use Rattle.format.specs.declared.PsbtError.{PsbtError}
use Rattle.format.specs.declared.PsbtError.TheVariants.{UnexpectedEof}
use Rattle.format.specs.Answers.{passed, Ruled}
use Rattle.std.specs.Prelude.{Ok, Err}
use Rattle.format.specs.declared.Psbt.{Psbt}
use Rattle.known_so_far.specs.SoFar.{unseen, globals_rule, psbt_from, flags, seen_rule, close_global, close_output, After, Closed}
use Rattle.known_so_far.specs.SoFar.{close_by, close, finish_by, finish, an_input, an_output, start, after_by, after}
use Rattle.known_so_far.specs.declared.Known.{Known}
use Rattle.known_so_far.specs.declared.Next.TheVariants.{Done, Map}

-- one rule and then another
pub then_passed : (a b : Ruled) → a ≡ passed → b ≡ and_then a b
unfolding and_then
then_passed a b h = sym (ap (λ (x : Ruled). and_then x b) h)

pub then_refused : (a b : Ruled) (e : PsbtError) → a ≡ Err e → Err e ≡ and_then a b
unfolding and_then
then_refused a b e h = sym (ap (λ (x : Ruled). and_then x b) h)

pub ruleset thens = (then_passed, then_refused)

-- where the global map ended: y is what its rule says
module _ (w : Known) (y : Ruled) (is : y ≡ globals_rule w.globals) where
  pub close_bad : (e : PsbtError) → y ≡ Err e → Err e ≡ close_global w (globals_rule w.globals)
  unfolding close_global
  close_bad e h = sym (ap (close_global w) (sym is ∙ h))

  pub close_good : y ≡ passed
      → Ok (record {
        kind = w.kind;
        globals = w.globals;
        inputs = w.globals.n_inputs;
        outputs = w.globals.n_outputs;
        seen = w.seen;
        ruled = w.ruled;
      }) ≡ close_global w (globals_rule w.globals)
  unfolding close_global
  close_good h = sym (ap (close_global w) (sym is ∙ h))

pub ruleset close_globals = (close_bad, close_good)

-- where an output ended
pub close_seen : (w : Known) (x y : Ruled) → x ≡ output_by (flags w.globals.tx_modifiable) w.seen.script w.seen.code w.seen.label
    → y ≡ and_then w.ruled x
    → record { kind = w.kind; globals = w.globals; inputs = w.inputs; outputs = w.outputs; seen = w.seen; ruled = y } ≡ close_output w
unfolding close_output seen_rule
close_seen w x y p q =
    λ j. record { kind = w.kind; globals = w.globals; inputs = w.inputs; outputs = w.outputs; seen = w.seen; ruled = (q ∙ ap (and_then w.ruled) p) j }

-- where a map ended, by its kind
module _ (w : Known) where
  pub close_g : (c : Closed) → w.kind ≡ Global → c ≡ close_global w (globals_rule w.globals) → c ≡ close w
  unfolding close close_by
  close_g c k e = e ∙ sym (rw k)

  pub close_o : (v : Known) → w.kind ≡ Output → v ≡ close_output w → Ok v ≡ close w
  unfolding close close_by
  close_o v k e = ap Ok e ∙ sym (rw k)

  pub close_i : w.kind ≡ Input → Ok w ≡ close w
  unfolding close close_by
  close_i k = sym (rw k)

pub ruleset closes = (close_g, close_o, close_i)

-- after all maps
module _ (w : Known) (left : Bool) where
  pub some_left : left ≡ true → Err UnexpectedEof ≡ finish w left
  unfolding finish
  some_left h = sym (rw h)

  pub all_passed : (s : Psbt) → left ≡ false → w.ruled ≡ passed → s ≡ psbt_from w.globals → Ok (Done s) ≡ finish w left
  unfolding finish finish_by
  all_passed s h k e = ap (λ (s : Psbt). Ok (Done s)) e ∙ sym (rw (h, k))

  pub one_refused : (e : PsbtError) → left ≡ false → w.ruled ≡ Err e → Err e ≡ finish w left
  unfolding finish finish_by
  one_refused e h k = sym (rw (h, k))

  pub next_input : 0 < w.inputs
      → Ok (Map (record { kind = Input; globals = w.globals; inputs = w.inputs - 1; outputs = w.outputs; seen = w.seen; ruled = w.ruled })) ≡ start w left
  unfolding start an_input
  next_input h = sym (rw (lt-ltb 0 w.inputs h))

  pub next_output : w.inputs ≤ 0 → 0 < w.outputs
      → Ok (Map (record { kind = Output; globals = w.globals; inputs = w.inputs; outputs = w.outputs - 1; seen = unseen; ruled = w.ruled })) ≡ start w left
  unfolding start an_output
  next_output h k = sym (rw (le-ltb 0 w.inputs h, lt-ltb 0 w.outputs k))

  pub next_none : (x : After) → w.inputs ≤ 0 → w.outputs ≤ 0 → x ≡ finish w left → x ≡ start w left
  unfolding start
  next_none x h k e = e ∙ sym (rw (le-ltb 0 w.inputs h, le-ltb 0 w.outputs k))

pub ruleset finishes = (some_left, all_passed, one_refused)

pub ruleset starts = (next_input, next_output, next_none)

-- what follows a map: c is how it ended
module _ (w : Known) (left : Bool) (c : Closed) (is : c ≡ close w) where
  pub after_bad : (e : PsbtError) → c ≡ Err e → Err e ≡ after w left
  unfolding after after_by
  after_bad e h = sym (ap (after_by left) (sym is ∙ h))

  pub after_good : (v : Known) (x : After) → c ≡ Ok v → x ≡ start v left → x ≡ after w left
  unfolding after after_by
  after_good v x h e = e ∙ sym (ap (after_by left) (sym is ∙ h))

pub ruleset afters = (after_bad, after_good)
