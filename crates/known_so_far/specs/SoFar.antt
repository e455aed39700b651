-- What is known of a file so far, by value, pair by pair and map by map: no table is needed for the verdict.
use Rattle.std.specs.Prelude.{is_some, ℕ, ◌-◌, ◌%◌, Bool, true, false, not, ◌&&◌, List, [], ltb, eqb, Ok, Err, Some, None}
use Rattle.format.specs.Tests.{pick}
use Rattle.format.specs.Numbers.{signed}
use Rattle.format.specs.Compact.{count}
use Rattle.format.specs.Keys.{key_of, same}
use Rattle.format.specs.Rules.{and_then}
use Rattle.format.specs.Content.{size_value, output_by}
use Rattle.format.specs.Locks.{or_zero}
use Rattle.format.specs.declared.MapKind.{MapKind}
use Rattle.format.specs.declared.MapKind.TheVariants.{Global, Input, Output, Other}
use Rattle.format.specs.declared.PsbtError.TheVariants.{UnexpectedEof, MissingCounts, NotAllowed}
use Rattle.format.specs.Answers.{Answer, passed, Maybe, Ruled}
use Rattle.format.specs.declared.Psbt.{Psbt}
use Rattle.wire.specs.Leads.{lead}
use Rattle.known_so_far.specs.declared.Globals.{Globals}
use Rattle.known_so_far.specs.declared.Seen.{Seen}
use Rattle.known_so_far.specs.declared.Known.{Known}
use Rattle.known_so_far.specs.declared.Next.{Next}
use Rattle.known_so_far.specs.declared.Next.TheVariants.{Done, Map}

-- a field of type t after a pair: read from the pair where its key is that type without data, else as it was
unfoldable pub noted_by : {A : Type 0} → (List ℕ → A) → ℕ → List ℕ → List ℕ → A → A
noted_by read t key v old = pick (same (key_of t []) key) (read v) old

-- how a value is read: as a number
unfoldable pub as_number : List ℕ → Maybe
as_number v = Some (lead 4 v)

-- as a count
unfoldable pub as_count : List ℕ → ℕ
as_count v = size_value (count v)

-- as being there
unfoldable pub as_there : List ℕ → Bool
as_there v = true

-- a field of at most four bytes after a pair
unfoldable pub noted : ℕ → List ℕ → List ℕ → Maybe → Maybe
noted t key v old = noted_by as_number t key v old

-- a count after a pair
unfoldable pub noted_count : ℕ → List ℕ → List ℕ → ℕ → ℕ
noted_count t key v old = noted_by as_count t key v old

-- whether a field is there, after a pair
unfoldable pub noted_there : ℕ → List ℕ → List ℕ → Bool → Bool
noted_there t key v old = noted_by as_there t key v old

-- the global fields after a pair of the global map
unfoldable pub note_global : List ℕ → List ℕ → Globals → Globals
note_global key v g = record {
  tx_version = noted 0x02 key v g.tx_version;
  fallback_locktime = noted 0x03 key v g.fallback_locktime;
  n_inputs = noted_count 0x04 key v g.n_inputs;
  n_outputs = noted_count 0x05 key v g.n_outputs;
  tx_modifiable = noted 0x06 key v g.tx_modifiable;
  psbt_version = noted 0xfb key v g.psbt_version;
  has_inputs = noted_there 0x04 key v g.has_inputs;
  has_outputs = noted_there 0x05 key v g.has_outputs;
}

-- what an output has, after a pair of it
unfoldable pub note_output : List ℕ → List ℕ → Seen → Seen
note_output key v o = record {
  script = noted_there 0x04 key v o.script;
  code = noted_there 0x09 key v o.code;
  label = noted_there 0x0a key v o.label;
}

-- what is known, with other global fields
unfoldable pub with_globals : Known → Globals → Known
with_globals w g = record { kind = w.kind; globals = g; inputs = w.inputs; outputs = w.outputs; seen = w.seen; ruled = w.ruled }

-- what is known, with another output that is read
unfoldable pub with_seen : Known → Seen → Known
with_seen w o = record { kind = w.kind; globals = w.globals; inputs = w.inputs; outputs = w.outputs; seen = o; ruled = w.ruled }

-- what is known after a pair, by the kind of its map
unfoldable pub note_by : MapKind → List ℕ → List ℕ → Known → Known
note_by Global key v w = with_globals w (note_global key v w.globals)
note_by Input key v w = w
note_by Output key v w = with_seen w (note_output key v w.seen)
note_by Other key v w = w

-- what is known after a pair of the map that is read
unfoldable pub note : List ℕ → List ℕ → Known → Known
note key v w = note_by w.kind key v w

-- the global fields before the first map
abbrev pub no_globals : Globals
no_globals = record {
  tx_version = None;
  fallback_locktime = None;
  n_inputs = 0;
  n_outputs = 0;
  tx_modifiable = None;
  psbt_version = None;
  has_inputs = false;
  has_outputs = false;
}

-- an output of which nothing is read yet
abbrev pub unseen : Seen
unseen = record { script = false; code = false; label = false }

-- what is known before the first map
abbrev pub at_first : Known
at_first = record { kind = Global; globals = no_globals; inputs = 0; outputs = 0; seen = unseen; ruled = passed }

-- a field that may be absent is there
abbrev pub there : Maybe → Bool
there m = is_some m

-- all that has to be in the global map is there
unfoldable pub all_there : Globals → Bool
all_there g = there g.tx_version && (g.has_inputs && (g.has_outputs && there g.psbt_version))

-- its version is 2
unfoldable pub version_rule : Maybe → Ruled
version_rule m = pick (eqb (or_zero m) 2) passed (Err NotAllowed)

-- the rule of the global map, of what was noted
unfoldable pub globals_rule : Globals → Ruled
globals_rule g = pick (all_there g) (version_rule g.psbt_version) (Err MissingCounts)

-- what is reported of it
unfoldable pub psbt_from : Globals → Psbt
psbt_from g = record {
  tx_version = signed (or_zero g.tx_version);
  fallback_locktime = g.fallback_locktime;
  tx_modifiable = g.tx_modifiable;
  inputs = g.n_inputs;
  outputs = g.n_outputs;
}

-- any of the two low flags is set
unfoldable pub flags : Maybe → Bool
flags m = not (eqb (or_zero m % 4) 0)

-- the rule of an output, of what was noted
unfoldable pub seen_rule : Globals → Seen → Ruled
seen_rule g o = output_by (flags g.tx_modifiable) o.script o.code o.label

-- what is known where a map ended, or the refusal
abbrev pub Closed : Type 0
Closed = Answer Known

-- what follows a map, or the refusal
abbrev pub After : Type 0
After = Answer Next

-- where the global map ends
unfoldable pub close_global : Known → Ruled → Closed
close_global w (Err e) = Err e
close_global w (Ok u) =
    Ok (record {
      kind = w.kind;
      globals = w.globals;
      inputs = w.globals.n_inputs;
      outputs = w.globals.n_outputs;
      seen = w.seen;
      ruled = w.ruled;
    })

-- where an output ends
unfoldable pub close_output : Known → Known
close_output w = record {
  kind = w.kind;
  globals = w.globals;
  inputs = w.inputs;
  outputs = w.outputs;
  seen = w.seen;
  ruled = and_then w.ruled (seen_rule w.globals w.seen);
}

-- where a map ends, by its kind
unfoldable pub close_by : MapKind → Known → Closed
close_by Global w = close_global w (globals_rule w.globals)
close_by Input w = Ok w
close_by Output w = Ok (close_output w)
close_by Other w = Ok w

-- where the map that is read ends
unfoldable pub close : Known → Closed
close w = close_by w.kind w

-- after all maps, by what the rules say of the outputs
unfoldable pub finish_by : Known → Ruled → After
finish_by w (Ok u) = Ok (Done (psbt_from w.globals))
finish_by w (Err e) = Err e

-- after all maps: nothing is left over, and the outputs keep their rules
unfoldable pub finish : Known → Bool → After
finish w left = pick left (Err UnexpectedEof) (finish_by w w.ruled)

-- before an input
unfoldable pub an_input : Known → Known
an_input w = record { kind = Input; globals = w.globals; inputs = w.inputs - 1; outputs = w.outputs; seen = w.seen; ruled = w.ruled }

-- before an output
unfoldable pub an_output : Known → Known
an_output w = record { kind = Output; globals = w.globals; inputs = w.inputs; outputs = w.outputs - 1; seen = unseen; ruled = w.ruled }

-- the next map: an input, an output, or none
unfoldable pub start : Known → Bool → After
start w left = pick (ltb 0 w.inputs) (Ok (Map (an_input w))) (pick (ltb 0 w.outputs) (Ok (Map (an_output w))) (finish w left))

-- what follows a map by how it ended, where bytes are left or not
unfoldable pub after_by : Bool → Closed → After
after_by left (Err e) = Err e
after_by left (Ok w) = start w left

-- what follows the map that is read
unfoldable pub after : Known → Bool → After
after w left = after_by left (close w)
